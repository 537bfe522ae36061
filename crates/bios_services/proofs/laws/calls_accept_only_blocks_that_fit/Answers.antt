use Rattle.bios_services.proofs.BlockLemmas.{calls_accept_only_blocks_that_fit, others_are_refused}
use Rattle.bios_services.proofs.laws.calls_accept_only_blocks_that_fit.Goals as goal

pub returns-clause-fit : goal.returns-clause-fit
returns-clause-fit g c = calls_accept_only_blocks_that_fit g.B.Bus.meaning

pub returns-clause-others : goal.returns-clause-others
returns-clause-others g c = others_are_refused g.B.Bus.meaning
