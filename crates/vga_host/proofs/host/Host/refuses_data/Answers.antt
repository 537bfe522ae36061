use Rattle.std.proofs.Common.{rules}
use Rattle.vga_host.proofs.host.Host.refuses_data.Goals as goal

pub returns-then-index_port-eq-SEQUENCER_INDEX : goal.returns-then-index_port-eq-SEQUENCER_INDEX
returns-then-index_port-eq-SEQUENCER_INDEX c = search rules

pub returns-else-index_port-eq-SEQUENCER_INDEX : goal.returns-else-index_port-eq-SEQUENCER_INDEX
returns-else-index_port-eq-SEQUENCER_INDEX c = search rules
