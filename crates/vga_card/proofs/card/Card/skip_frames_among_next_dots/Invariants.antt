use Rattle.std.proofs.Common.{◌≡◌, ◌≤◌}
use Rattle.vga_card.specs.Dots.{dots}
use Rattle.vga_card.specs.Frames.{card_dots_to_frame_end}
use Rattle.vga_card.proofs.card.Card.skip_frames_among_next_dots.Given as goal

-- the dots that are left lead to where all of them lead, and the count is that of the frame under way
abbrev pub invariant-loop-count : goal.invariant-loop-count
invariant-loop-count l = (dots l.left l.self ≡ dots l.n l.fn.self) × ((l.count ≡ card_dots_to_frame_end l.self) × (l.left ≤ l.n))

abbrev pub decreases-loop-count : goal.decreases-loop-count
decreases-loop-count l = l.left
