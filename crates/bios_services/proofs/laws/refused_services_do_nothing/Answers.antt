use Rattle.bios_services.proofs.RefusedLemmas.{refused_service}
use Rattle.bios_services.proofs.laws.refused_services_do_nothing.Goals as goal

pub returns : goal.returns
returns g c = refused_service g.B.Bus.meaning
