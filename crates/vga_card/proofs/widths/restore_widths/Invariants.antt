use Rattle.std.proofs.Common.{◌≡◌, take}
use Rattle.vga_bits.specs.Saved.{first_words}
use Rattle.vga_card.proofs.widths.restore_widths.Given as goal

-- the first widths are the first words
abbrev pub invariant-loop-line : goal.invariant-loop-line
invariant-loop-line l = take l.line l.widths ≡ first_words l.line l.bytes
