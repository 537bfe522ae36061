use Rattle.std.proofs.Common.{◌≤◌, ℕ, List, length, subst, sym}
use Rattle.std.specs.Prelude.{slice_index}
use Rattle.vga_card.specs.Card.{CardState}
use Rattle.vga_card.proofs.WidthLemmas.{width_few}
use Rattle.vga_card.proofs.card.Card.drawn_lines.Goals as goal

-- no line has more dots than are drawn
pub returns-clause-few : goal.returns-clause-few
returns-clause-few c v =
    let drawn = c.self.inside.canvas.dots in
    subst (λ (s : CardState). slice_index c.lines.result.widths.now v ≤ length s.drawn) c.self.view_is
    (subst (λ (ws : List ℕ). slice_index ws v ≤ length drawn) (sym c.lines.ensures.lines.0) (width_few drawn v))
