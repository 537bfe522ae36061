use Rattle.bios_services.specs.Service.{service}
use Rattle.bios_services.proofs.CardLemmas.{plan_drawn}
use Rattle.bios_services.proofs.laws.calls_draw_nothing.Goals as goal

pub returns : goal.returns
returns c = λ fonts d r block. plan_drawn (service fonts d r block)
