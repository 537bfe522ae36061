use Rattle.bios_services.specs.Service.{service}
use Rattle.bios_services.proofs.CardLemmas.{plan_fresh}
use Rattle.bios_services.proofs.laws.calls_treat_restored_cards_alike.Goals as goal

pub returns : goal.returns
returns c = λ fonts d r block. plan_fresh (service fonts d r block)
