use Rattle.bios_services.specs.Service.{service}
use Rattle.bios_services.proofs.CardLemmas.{plan_bounds}
use Rattle.bios_services.proofs.KeptLemmas.{data_stay, first_data}
use Rattle.bios_services.proofs.laws.calls_keep_bounds.Goals as goal

pub returns-clause-first : goal.returns-clause-first
returns-clause-first c = first_data

pub returns-clause-card : goal.returns-clause-card
returns-clause-card c = λ fonts d r block. plan_bounds (service fonts d r block)

pub returns-clause-bda : goal.returns-clause-bda
returns-clause-bda c = data_stay
