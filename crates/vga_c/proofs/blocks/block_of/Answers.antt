use Rattle.std.proofs.Common.{rules}
use Rattle.vga_c.proofs.ServiceLemmas.{enough}
use Rattle.vga_c.proofs.blocks.block_of.Goals as goal

pub returns-clause-enough : goal.returns-clause-enough
returns-clause-enough c = enough c.calls_accept_only_blocks_that_fit.ensures.fit c.args.machine.now c.args.registers.now c.of_registers-len.result.len c.of_registers-len.ensures.len

pub returns-clause-block : goal.returns-clause-block
returns-clause-block c = search rules
