-- The numbers kept are those of four bits.
use Rattle.std.proofs.Common.{◌%◌, ap, ◌∙◌, arith}
use Rattle.vga_attr.specs.Attr.{AttrState}
use Rattle.vga_attr.specs.Colour.{colour_index}
use Rattle.vga_attr.proofs.TableLemmas.{four_bits}
use Rattle.vga_attr.proofs.attr.Attr.colour_index.Goals as goal

pub returns : goal.returns
returns c =
    c.self.invariant.2.each (c.args.nibble % 16) (omega arith)
    ∙ ap (λ (a : AttrState). colour_index a (c.args.nibble % 16)) c.self.view_is
    ∙ four_bits c.args.self.now c.args.nibble
