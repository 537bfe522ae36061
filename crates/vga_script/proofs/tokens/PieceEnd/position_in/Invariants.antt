use Rattle.std.proofs.Common.{◌≡◌, ◌<◌, ◌≤◌, ◌-◌, ℕ, false, length, get_or}
use Rattle.vga_script.specs.Tokens.{is_end_of_piece}
use Rattle.vga_script.proofs.tokens.PieceEnd.position_in.Given as goal

-- no byte so far ends the piece
abbrev pub invariant-loop-position : goal.invariant-loop-position
invariant-loop-position l = record { within : l.position ≤ length l.text; none : (k : ℕ) → k < l.position → is_end_of_piece l.self (get_or l.text k 0) ≡ false }

abbrev pub decreases-loop-position : goal.decreases-loop-position
decreases-loop-position l = length l.text - l.position
