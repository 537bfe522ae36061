use Rattle.std.proofs.Common.{◌+◌, ◌-◌, ◌/◌, ◌%◌, ◌^◌}
use Rattle.vga_bits.specs.Bits.{is_set}
use Rattle.vga_dots.specs.declared.eight_dots.TheConstants.{MIDDLE_MASKS}
use Rattle.std.specs.Prelude.{slice_index}
use Rattle.vga_dots.proofs.EightDotsLemmas.{byte_chosen, middle_mask}
use Rattle.vga_dots.proofs.eight_dots.middle_bytes_of_glyph.Goals as goal

pub returns : goal.returns
returns c = λ p l. byte_chosen (slice_index MIDDLE_MASKS (c.args.lit / 2 ^ 3 % 16)) c.args.change c.args.ground p (is_set c.args.lit (8 - (8 + p) / 3)) (middle_mask c.args.lit p l)
