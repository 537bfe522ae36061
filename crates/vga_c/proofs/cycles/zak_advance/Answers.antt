use Rattle.std.proofs.Common.{◌∙◌, refl}
use Rattle.vga_c.specs.Handle.{machine_after_owed_dots}
use Rattle.vga_c.proofs.HandleLemmas.{advance_is_done}
use Rattle.vga_c.proofs.cycles.zak_advance.Goals as goal

pub returns-then-owe-clause-step : goal.returns-then-owe-clause-step
returns-then-owe-clause-step c was = (
  (c.if-owe.ensures.owed refl ∙ was, c.if-owe.ensures.machine refl),
  advance_is_done (machine_after_owed_dots c.args.card.now) c.args.dots (c.if-owe.ensures.few refl),
)
