use Rattle.std.proofs.Common.{arith, ◌+◌}
use Rattle.bios_services.specs.Drawing.{character_plan}
use Rattle.bios_services.proofs.PlanRuns.{next_turn}
use Rattle.bios_services.proofs.cell_run.CellRun.write_from.Goals as goal

pub loop-i-preserved : goal.loop-i-preserved
loop-i-preserved g c =
    next_turn g.B.Bus.meaning (λ i. character_plan c.args.page.now.fonts c.args.page.now.bda c.args.page.now.number (c.args.first + i)
    c.args.self.character c.args.self.colouring) c.loop-i.i
    c.args.self.count c.loop-i.bus c.write_character.new.bus _ (omega arith) c.write_character.ensures c.loop-i.invariant
