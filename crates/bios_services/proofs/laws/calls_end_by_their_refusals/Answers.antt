use Rattle.bios_services.proofs.RefusedLemmas.{ends_by_refusal}
use Rattle.bios_services.proofs.laws.calls_end_by_their_refusals.Goals as goal

pub returns : goal.returns
returns g c = ends_by_refusal g.B.Bus.meaning
