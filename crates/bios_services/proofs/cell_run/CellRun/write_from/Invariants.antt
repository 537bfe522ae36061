use Rattle.std.proofs.Common.{◌≡◌, ◌-◌, ◌+◌}
use Rattle.bios_services.specs.Plan.{run, each}
use Rattle.bios_services.specs.Drawing.{character_plan, characters_plan}
use Rattle.bios_services.proofs.cell_run.CellRun.write_from.Given as goal

-- what the cells from here on leave is what all the cells leave
abbrev pub invariant-loop-i : goal.invariant-loop-i
invariant-loop-i g l =
    run g.B.Bus.meaning (each (λ i. character_plan l.page.fonts l.page.bda l.page.number (l.first + i) l.self.character l.self.colouring)
    (l.self.count - l.i) l.i) l.bus
    ≡ run g.B.Bus.meaning (characters_plan l.page.fonts l.page.bda l.page.number l.first l.self.character l.self.colouring l.self.count) l.fn.bus
