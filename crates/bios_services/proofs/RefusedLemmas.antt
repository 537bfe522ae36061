-- Why a call is refused; and a refused call has no cycle and leaves the BIOS data.
use Rattle.std.proofs.Common.{◌≡◌, ◌∙◌, ◌==◌, ℕ, Bool, true, false, if◌then◌else◌, Option, Some, None, List, length, Result, Ok, Err, refl, sym, ap}
use Rattle.vga_bits.specs.declared.refusal.Refusal.{Refusal}
use Rattle.vga_bits.specs.declared.refusal.Refusal.TheVariants.{NoMode, BadMode, BadHeight}
use Rattle.vga_card.specs.Bus.{BusMeaning}
use Rattle.bios_modes.specs.declared.modes.ModeRow.{ModeRow}
use Rattle.bios_modes.specs.Modes.{mode_row}
use Rattle.bios_modes.specs.Heights.{mode_row_at_height}
use Rattle.bios_modes.specs.Bda.{BiosData}
use Rattle.bios_modes.specs.Begin.{data_of_mode}
use Rattle.bios_modes.specs.Fonts.{FontSet}
use Rattle.bios_services.specs.declared.regs.Regs.{Regs}
use Rattle.bios_services.specs.declared.reply.Reply.{Reply}
use Rattle.bios_services.specs.declared.reply.Table.{Table}
use Rattle.bios_services.specs.declared.reply.Table.TheVariants.{Empty}
use Rattle.bios_services.specs.declared.tables.TableService.{TableService}
use Rattle.bios_services.specs.declared.glyph_load.GlyphLoad.{GlyphLoad}
use Rattle.bios_services.specs.declared.call.Call.{Call}
use Rattle.bios_services.specs.declared.call.Call.TheVariants.{SetMode, ReadTable, LoadGlyphs, InMode}
use Rattle.bios_services.specs.declared.call.Service.{Service}
use Rattle.bios_services.specs.Plan.{Plan, Done, ◌>>=◌, run}
use Rattle.bios_services.specs.Calls.{call_of}
use Rattle.bios_services.specs.ModeSet.{mode_set_plan}
use Rattle.bios_services.specs.Reasons.{◌or◌}
use Rattle.bios_services.specs.GlyphLoads.{load_refusal, load_plan}
use Rattle.bios_services.specs.Refusals.{service_with_page_or_0_if_only_one, refusal_in_mode}
use Rattle.bios_services.specs.CallReasons.{unless_row, call_refusal, refusal_in_answer, CallsEndByTheirRefusals}
use Rattle.bios_services.specs.Tables.{table_plan, table_refusal}
use Rattle.bios_services.specs.Service.{RefusedCallsDoNothing, CallOutcome, answer_with, call_plan, service_in_mode_plan, load_if_height_exists, load_unless_refused_plan, load_in_mode_plan, plan_of_service}
use Rattle.bios_services.specs.Service.{refusal_plan, service, set_mode_plan, table_in_mode_plan, table_unless_refused_plan, unless_refused_plan}
use Rattle.bios_services.proofs.PlanRuns.{run_bind}

-- how a call ends: with a reason, it is refused and nothing has changed; without one, it answers
abbrev pub Ends : {S : Type 0} → Option Refusal → S → BiosData → S × CallOutcome → Type 0
Ends (Some why) s d after = after ≡ (s, (Err why, d))
Ends None s d after = (reply : Reply) × (after.1.0 ≡ Ok reply)

abbrev EndsBy : {S : Type 0} → BusMeaning S → Option Refusal → Plan CallOutcome → BiosData → Type 0
EndsBy {S} m why p d = (s : S) → Ends why s d (run m p s)

-- a plan that answers a table and registers is not refused
answers : {S A : Type 0} (m : BusMeaning S) (p : Plan A) (table : A → Table) (regs : A → Regs) (after : A → BiosData) (d : BiosData)
    → EndsBy m None (p >>= λ a. Done (answer_with (table a) (regs a) (after a))) d
answers {S} m p table regs after d s =
    let a = (run m p s).1 in
    let reply : Reply = record { regs = regs a; table = table a } in
    (reply, ap (λ (x : S × CallOutcome). x.1.0) (run_bind m p (λ a. Done (answer_with (table a) (regs a) (after a))) s))

if_set : {S : Type 0} (m : BusMeaning S) (unset : Bool) (why : Option Refusal) (p : Plan CallOutcome) (d : BiosData) → EndsBy m why p d →
    EndsBy m (if unset then Some NoMode else why) (if unset then refusal_plan NoMode d else p) d
if_set m true why p d h s = refl
if_set m false why p d h s = h s

set_mode_ends : {S : Type 0} (m : BusMeaning S) (row : Option ModeRow) (mode : ℕ) (keeps : Bool) (fonts : FontSet) (d : BiosData) (r : Regs) →
    EndsBy m (unless_row BadMode row) (set_mode_plan row mode keeps fonts d r) d
unfolding set_mode_plan
set_mode_ends m None mode keeps fonts d r s = refl
set_mode_ends m (Some row) mode keeps fonts d r s = answers m (mode_set_plan row keeps fonts) (λ _. Empty) (λ _. r) (λ _. data_of_mode mode row) d s

unless_ends : {S : Type 0} (m : BusMeaning S) (why : Option Refusal) (asked : Service) (fonts : FontSet) (d : BiosData) (r : Regs) (block : List ℕ) →
    EndsBy m why (unless_refused_plan why asked fonts d r block) d
unfolding unless_refused_plan
unless_ends m (Some why) asked fonts d r block s = refl
unless_ends m None asked fonts d r block s = answers m (plan_of_service asked fonts d r block) (λ _. Empty) (λ o. o.0) (λ o. o.1) d s

table_ends : {S : Type 0} (m : BusMeaning S) (why : Option Refusal) (asked : TableService) (d : BiosData) (r : Regs) → EndsBy m why (table_unless_refused_plan why asked d r) d
unfolding table_unless_refused_plan
table_ends m (Some why) asked d r s = refl
table_ends m None asked d r s = answers m (table_plan asked d.crtc_address) (λ table. table) (λ _. r) (λ _. d) d s

load_at_ends : {S : Type 0} (m : BusMeaning S) (row : Option ModeRow) (load : GlyphLoad) (fonts : FontSet) (d : BiosData) (r : Regs) (block : List ℕ) →
    EndsBy m (unless_row BadHeight row) (load_if_height_exists row load fonts d r block) d
unfolding load_if_height_exists
load_at_ends m None load fonts d r block s = refl
load_at_ends m (Some row) load fonts d r block s = answers m (load_plan fonts load block row) (λ _. Empty) (λ _. r) (λ _. data_of_mode d.mode row) d s

load_ends : {S : Type 0} (m : BusMeaning S) (why : Option Refusal) (load : GlyphLoad) (fonts : FontSet) (d : BiosData) (r : Regs) (block : List ℕ) →
    EndsBy m (why or unless_row BadHeight (mode_row_at_height d.mode load.height)) (load_unless_refused_plan why load fonts d r block) d
unfolding load_unless_refused_plan
load_ends m (Some why) load fonts d r block s = refl
load_ends m None load fonts d r block s = load_at_ends m (mode_row_at_height d.mode load.height) load fonts d r block s

-- each call ends as its reason says
pub call_ends : {S : Type 0} (m : BusMeaning S) (call : Option Call) (fonts : FontSet) (d : BiosData) (r : Regs) (block : List ℕ) →
    EndsBy m (call_refusal call d (length block)) (call_plan call fonts d r block) d
unfolding table_in_mode_plan load_in_mode_plan service_in_mode_plan
call_ends m None fonts d r block s = refl
call_ends m (Some (SetMode mode keeps)) fonts d r block s = set_mode_ends m (mode_row mode) mode keeps fonts d r s
call_ends m (Some (ReadTable asked)) fonts d r block s =
    let why = table_refusal asked in
    if_set m (d.mode == 0) why (table_unless_refused_plan why asked d r) d (table_ends m why asked d r) s
call_ends m (Some (LoadGlyphs load)) fonts d r block s =
    let why = load_refusal load d.mode (length block) in
    if_set m (d.mode == 0) (why or unless_row BadHeight (mode_row_at_height d.mode load.height)) (load_unless_refused_plan why load fonts d r block) d (load_ends m why load fonts d r block) s
call_ends m (Some (InMode asked)) fonts d r block s =
    let there = service_with_page_or_0_if_only_one d asked in
    let why = refusal_in_mode there d (length block) in
    if_set m (d.mode == 0) why (unless_refused_plan why there fonts d r block) d (unless_ends m why there fonts d r block) s

-- so a call answers its refusal, or registers and a table
pub ends_by_refusal : {S : Type 0} (m : BusMeaning S) → CallsEndByTheirRefusals m
ends_by_refusal {S} m fonts d r block s =
    by_refusal (call_refusal (call_of r) d (length block)) (call_ends m (call_of r) fonts d r block s)
  where
    after : S × CallOutcome
    after = run m (service fonts d r block) s

    by_refusal : (why : Option Refusal) → Ends why s d after → refusal_in_answer after.1.0 ≡ why
    by_refusal (Some why) ends = ap (λ (x : S × CallOutcome). refusal_in_answer x.1.0) ends
    by_refusal None ends = ap refusal_in_answer ends.1

-- so a refused service leaves the bus and the BIOS data
pub refused_service : {S : Type 0} (m : BusMeaning S) → RefusedCallsDoNothing m
refused_service {S} m fonts d r block s e is =
    by_reason (call_refusal (call_of r) d (length block)) (call_ends m (call_of r) fonts d r block s)
  where
    after : S × CallOutcome
    after = run m (service fonts d r block) s

    by_reason : (why : Option Refusal) → Ends why s d after → after ≡ (s, (Err e, d))
    by_reason (Some why) ends = ends ∙ ap (λ (x : Result Reply Refusal). (s, (x, d))) (sym (ap (λ (x : S × CallOutcome). x.1.0) ends) ∙ is)
    by_reason None ends = let both = sym ends.1 ∙ is in absurd (cc)
