use Rattle.std.proofs.Common.{ap, ◌∙◌}
use Rattle.std.specs.Prelude.{◌/◌}
use Rattle.bios_screen.proofs.Shows.Reading.{text_laid_out}
use Rattle.bios_screen.proofs.screen.Screen.of_text.Goals as goal

pub invariant_of-result : goal.invariant_of-result
invariant_of-result c =
    let l = c.layout_of.ensures in
    text_laid_out c.args.row.now c.args.card.now c.args.bda.now c.requires.row c.requires.text c.requires.shown _ _ _ _ c.mode.ensures (ap (λ x. x.columns) l)
    (ap (λ x. x.rows) l) (ap (λ x. x.distance) l ∙ ap (λ k. k / 2) c.size.ensures) (ap (λ x. x.pages) l) c.in_ok-read_cells.ensures.len
