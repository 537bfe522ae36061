use Rattle.std.proofs.Common.{◌≡◌, length, take}
use Rattle.vga_bits.specs.Saved.{first_words}
use Rattle.bios_modes.proofs.bda.saved.cursor_positions_from.Given as goal

-- there are eight positions, and the first ones are the first words
abbrev pub invariant-loop-page : goal.invariant-loop-page
invariant-loop-page l = record { count : length l.places ≡ 8; words : take l.page l.places ≡ first_words l.page l.bytes }
