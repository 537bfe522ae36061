use Rattle.std.proofs.Common.{arith, rules}
use Rattle.bios_services.specs.Tables.{read_entries_plan}
use Rattle.std.proofs.lemmas.Grind.{common_steps}
use Rattle.vga_bits.specs.Bytes.{zeros}
use Rattle.bios_services.proofs.tables.read_entries.Goals as goal

pub returns-in_default-clause-ok : goal.returns-in_default-clause-ok
unfolding read_entries_plan zeros
returns-in_default-clause-ok c = search rules

pub returns-clause-ok : goal.returns-clause-ok
unfolding read_entries_plan zeros
returns-clause-ok c = grind (arith, common_steps)
