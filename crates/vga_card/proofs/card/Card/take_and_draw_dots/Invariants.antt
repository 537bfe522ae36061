use Rattle.std.proofs.Common.{◌≡◌}
use Rattle.std.specs.Prelude.{IfSome}
use Rattle.vga_card.specs.Dots.{dots, character_width}
use Rattle.vga_card.specs.Line.{display_with_start_taken}
use Rattle.vga_card.specs.Repeat.{EndsWithLine}
use Rattle.vga_card.proofs.card.Card.take_and_draw_dots.Given as goal

-- what the dots that are left lead to, and whose dots were drawn last
abbrev pub invariant-loop-left : goal.invariant-loop-left
invariant-loop-left l = (dots l.left l.self ≡ dots l.n l.initial.self) × (l.width ≡ character_width l.self)
    × IfSome l.before (EndsWithLine (display_with_start_taken l.self) l.self.drawn)

abbrev pub decreases-loop-left : goal.decreases-loop-left
decreases-loop-left l = l.left
