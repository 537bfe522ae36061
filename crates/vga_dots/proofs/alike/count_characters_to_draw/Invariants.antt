use Rattle.std.proofs.Common.{ℕ, ◌+◌, ◌<◌, ◌≤◌}
use Rattle.vga_dots.specs.SourceDot.{counter_of_character}
use Rattle.vga_dots.specs.Alike.{IsCursorlessCell}
use Rattle.vga_dots.proofs.alike.count_characters_to_draw.Given as goal

-- the characters from `drawn` on have the cell of the last one, and no cursor
abbrev pub invariant-loop-drawn : goal.invariant-loop-drawn
invariant-loop-drawn l = (l.drawn ≤ l.count)
    × ((x : ℕ) → l.drawn ≤ x → x < l.count → IsCursorlessCell l.fn.display (counter_of_character l.fn.display.crtc (l.fn.first + x)) l.last)

abbrev pub decreases-loop-drawn : goal.decreases-loop-drawn
decreases-loop-drawn l = l.drawn
