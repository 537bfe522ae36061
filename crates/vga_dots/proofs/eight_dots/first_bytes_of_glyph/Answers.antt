use Rattle.std.proofs.Common.{◌-◌, ◌/◌, ◌^◌}
use Rattle.vga_bits.specs.Bits.{is_set}
use Rattle.vga_dots.specs.declared.eight_dots.TheConstants.{FIRST_MASKS}
use Rattle.std.specs.Prelude.{slice_index}
use Rattle.vga_dots.proofs.EightDotsLemmas.{byte_chosen, first_mask}
use Rattle.vga_dots.proofs.eight_dots.first_bytes_of_glyph.Goals as goal

pub returns : goal.returns
returns c = λ p l. byte_chosen (slice_index FIRST_MASKS (c.args.lit / 2 ^ 6)) c.args.change c.args.ground p (is_set c.args.lit (8 - p / 3)) (first_mask c.args.lit p c.requires l)
