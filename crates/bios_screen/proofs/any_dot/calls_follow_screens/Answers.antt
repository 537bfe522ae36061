use Rattle.std.proofs.Common.{length}
use Rattle.bios_services.specs.Service.{service as service_plan}
use Rattle.bios_services.proofs.CardLemmas.{plan_bounds, plan_drawn}
use Rattle.bios_screen.specs.Step.{refusal_on}
use Rattle.bios_screen.proofs.Shows.CutAlike.{uncut, unless_cut}
use Rattle.bios_screen.proofs.Services.Calls.{calls_lead}
use Rattle.bios_screen.proofs.Services.LoadCalls.{load_leads}
use Rattle.bios_screen.proofs.Services.Tables.{tables_read}
use Rattle.bios_screen.proofs.Dots.BetweenDots.{screen_follows, load_follows}
use Rattle.bios_screen.proofs.any_dot.calls_follow_screens.Goals as goal

pub returns-clause-served : goal.returns-clause-served
returns-clause-served c = λ service fonts r block card d b z bda words bytes is asked.
    let k = calls_lead service fonts r block card d b.screen z bda words bytes is.shows asked in
    let plan = service_plan fonts d r block in
    screen_follows card _ d _ b _ is (plan_bounds plan card z) k.shows k.beam (plan_drawn plan card)
    (unless_cut (refusal_on b.screen service (length block)) fonts b.screen service block)

pub returns-clause-loaded : goal.returns-clause-loaded
returns-clause-loaded c = λ load fonts r block card d b z bytes glyphs is may asked.
    let k = load_leads fonts load r block bytes glyphs card d b.screen z is.shows asked in
    let plan = service_plan fonts d r block in
    load_follows fonts load block card _ d _ b may is (plan_bounds plan card z) k.shows k.beam (plan_drawn plan card)

pub returns-clause-table : goal.returns-clause-table
returns-clause-table c = λ service fonts r block card d b z is asked.
    let k = tables_read service fonts r block card d b.screen z is.shows asked in
    let plan = service_plan fonts d r block in
    screen_follows card _ d _ b b.screen is (plan_bounds plan card z) k.shows k.beam (plan_drawn plan card) (uncut b.screen)
