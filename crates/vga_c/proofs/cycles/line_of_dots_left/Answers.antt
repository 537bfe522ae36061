use Rattle.vga_c.proofs.cycles.line_of_dots_left.Goals as goal

pub returns-else-left-gt0 : goal.returns-else-left-gt0
returns-else-left-gt0 c = c.unknown.ensures c.args.machine.now.card
