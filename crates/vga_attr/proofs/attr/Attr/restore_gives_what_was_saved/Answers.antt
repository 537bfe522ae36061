use Rattle.std.proofs.Common.{ap, arith}
use Rattle.vga_attr.specs.Attr.{AttrState}
use Rattle.vga_attr.proofs.SavedLemmas.{attr_is_saved}
use Rattle.vga_attr.proofs.attr.Attr.restore_gives_what_was_saved.Goals as goal

pub returns-clause-saved : goal.returns-clause-saved
returns-clause-saved c =
    attr_is_saved c.args.self.now c.bounds.ensures (omega (arith, ap (λ (a : AttrState). a.index) c.self.view_is, c.self.invariant.1))
