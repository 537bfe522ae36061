use Rattle.std.proofs.Common.{◌∙◌, ap, sym, arith}
use Rattle.vga_c.specs.Handle.{HandleState, machine_after_owed_dots}
use Rattle.vga_c.proofs.HandleLemmas.{nothing_owed}
use Rattle.vga_c.proofs.handle.take.Goals as goal
use Rattle.vga_c.proofs.handle.take.Goals.{then-card-gt0, else-card-gt0}

pub returns-clause-machine : goal.returns-clause-machine
returns-clause-machine c =
    c.take_out.ensures.kept ∙ elim c.if-card-gt0.branch [
      | then-card-gt0 w ↦ nothing_owed c.dots_split.ensures.none c.if-card-gt0.card (ap (λ (h : HandleState). h.owed) w.card-is ∙ w.draw_owed.ensures.owed)
          ∙ ap machine_after_owed_dots w.card-is ∙ w.draw_owed.ensures.machine
      | else-card-gt0 w ↦ nothing_owed c.dots_split.ensures.none c.if-card-gt0.card (ap (λ (h : HandleState). h.owed) (w.card-is ∙ sym c.card.view_is)
          ∙ omega (arith, w.if-card-gt0.false)) ∙ ap machine_after_owed_dots w.card-is
    ]
