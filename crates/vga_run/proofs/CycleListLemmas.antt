-- What is listed of a call is its plan, and its plan is the call.
use Rattle.std.proofs.Common.{◌≡◌, ℕ, ◌<◌, ◌≤◌, ◌&&◌, true, List, ◌∷◌, length, Result, Ok, Err, IsOk, IfOk, IfErr, refl, sym, ap, ◌∙◌, subst, arith}
use Rattle.std.specs.Prelude.{nat_lt}
use Rattle.std.proofs.lemmas.Bool.{and_parts, ltb-true}
use Rattle.vga_bits.specs.declared.refusal.Refusal.{Refusal}
use Rattle.vga_card.specs.Card.{CardState}
use Rattle.vga_card.specs.Bus.{Place, AtPort, AtAddress, card_meaning, card_write, card_read}
use Rattle.vga_card.specs.Cycles.{WriteResult as CycleWritten, ReadResult as CycleAnswered}
use Rattle.vga_card.specs.FreshCanvas.{without_dots_of_ended_frame}
use Rattle.bios_modes.specs.Bda.{BiosData}
use Rattle.bios_services.specs.declared.regs.Regs.{Regs}
use Rattle.bios_services.specs.declared.reply.Reply.{Reply}
use Rattle.bios_services.specs.Plan.{Plan, Done, Write, Read, run, read_byte_or_ff}
use Rattle.bios_services.specs.Service.{CallOutcome, service}
use Rattle.bios_services.proofs.CardLemmas.{write_fresh, read_fresh, plan_fresh}
use Rattle.vga_script.specs.ScriptBytes.{BytesWritten, script_without_steps, with_steps_appended, script_of_steps, HasWritten}
use Rattle.vga_script.specs.Spelling.{script_limit, encoding}
use Rattle.vga_script.specs.Step.{IsInRange, AreInRange}
use Rattle.vga_script.proofs.ScriptBytesLemmas.{script_written, script_spells, room_stays}
use Rattle.vga_run.specs.declared.cycle_list.Unlisted.{Unlisted}
use Rattle.vga_run.specs.declared.cycle_list.Unlisted.TheVariants.{TooLong}
use Rattle.vga_run.specs.declared.machine.Machine.{Machine}
use Rattle.vga_run.specs.Answer.{Short, of_byte}
use Rattle.vga_run.specs.Step.{after_step, after_steps, answer_to, after_int10}
use Rattle.vga_run.specs.CycleList.{write_step_of_place, read_step_of_place, cycles_of_plan, cycles_of_call, byte_answered_or_ff, bytes_read_by_steps, plan_answer_from_bytes, ListingCard, is_place_in_range, list_write}
use Rattle.vga_run.specs.CycleList.{list_read, list_meaning, script_of_call_cycles, IsCycleList, IsUnlisted}

-- ---- what is listed

script_listed : {A : Type 0} (p : Plan A) (s : ListingCard) → (run list_meaning p s).0.script ≡ with_steps_appended s.script (cycles_of_plan p s.card)
script_listed (Done a) s = refl
script_listed (Write place v rest) s = script_listed rest (list_write s place v).0
script_listed (Read place rest) s = let r = list_read s place in script_listed (rest (read_byte_or_ff r.1)) r.0

answer_listed : {A : Type 0} (p : Plan A) (s : ListingCard) → (run list_meaning p s).1 ≡ (run card_meaning p s.card).1
answer_listed (Done a) s = refl
answer_listed (Write place v rest) s = answer_listed rest (list_write s place v).0
answer_listed (Read place rest) s = let r = list_read s place in answer_listed (rest (read_byte_or_ff r.1)) r.0

write_fits : (place : Place) (v : ℕ) → (is_place_in_range place && nat_lt v 0x100) ≡ true → IsInRange (write_step_of_place place v)
write_fits (AtPort port) v e = let b = and_parts (nat_lt port 0x10000) (nat_lt v 0x100) e in (ltb-true _ _ b.0, ltb-true _ _ b.1)
write_fits (AtAddress address) v e = let b = and_parts (nat_lt address 0x100000000) (nat_lt v 0x100) e in (ltb-true _ _ b.0, ltb-true _ _ b.1)

read_fits : (place : Place) → is_place_in_range place ≡ true → IsInRange (read_step_of_place place)
read_fits (AtPort port) e = ltb-true _ _ e
read_fits (AtAddress address) e = ltb-true _ _ e

-- the fields of all cycles fit their bytes where those of each that was issued did
range_listed : {A : Type 0} (p : Plan A) (s : ListingCard) → (run list_meaning p s).0.fits ≡ true → (s.fits ≡ true) × AreInRange (cycles_of_plan p s.card)
range_listed (Done a) s e = (e, tt)
range_listed (Write place v rest) s e =
    let later = range_listed rest (list_write s place v).0 e in
    let now = and_parts s.fits (is_place_in_range place && nat_lt v 0x100) later.0 in
    (now.0, (write_fits place v now.1, later.1))
range_listed (Read place rest) s e =
    let r = list_read s place in
    let later = range_listed (rest (read_byte_or_ff r.1)) r.0 e in
    let now = and_parts s.fits (is_place_in_range place) later.0 in
    (now.0, (read_fits place now.1, later.1))

-- a copy of an adapter has the same cycles
cycles_fresh : {A : Type 0} (p : Plan A) (c : CardState) → cycles_of_plan p (without_dots_of_ended_frame c) ≡ cycles_of_plan p c
cycles_fresh (Done a) c = refl
cycles_fresh (Write place v rest) c =
    ap (λ (w : CycleWritten). write_step_of_place place v ∷ cycles_of_plan rest w.0) (write_fresh c place v)
    ∙ ap (λ l. write_step_of_place place v ∷ l) (cycles_fresh rest (card_write c place v).0)
cycles_fresh (Read place rest) c =
    let r = card_read c place in
    ap (λ (a : CycleAnswered). read_step_of_place place ∷ cycles_of_plan (rest (read_byte_or_ff a.1)) a.0) (read_fresh c place)
    ∙ ap (λ l. read_step_of_place place ∷ l) (cycles_fresh (rest (read_byte_or_ff r.1)) r.0)

-- ---- a call

-- an adapter's copy, before a call
abbrev pub before : Machine → ℕ → ListingCard
before m room = record { card = without_dots_of_ended_frame m.card; script = script_without_steps room; fits = true }

answer_same : (m : Machine) (regs : Regs) (block : List ℕ) (room : ℕ) → (run list_meaning (service m.fonts m.bda regs block) (before m room)).1
    ≡ (after_int10 m regs.ax regs.bx regs.cx regs.dx block).1
unfolding after_int10
answer_same m regs block room =
    let p = service m.fonts m.bda regs block in
    answer_listed p (before m room) ∙ ap (λ (r : CardState × CallOutcome). r.1) (plan_fresh p m.card)

script_same : (m : Machine) (regs : Regs) (block : List ℕ) (room : ℕ) → (run list_meaning (service m.fonts m.bda regs block) (before m room)).0.script
    ≡ with_steps_appended (script_without_steps room) (cycles_of_call m regs block)
unfolding cycles_of_call
script_same m regs block room =
    let p = service m.fonts m.bda regs block in
    script_listed p (before m room) ∙ ap (with_steps_appended (script_without_steps room)) (cycles_fresh p m.card)

range_same : (m : Machine) (regs : Regs) (block : List ℕ) (room : ℕ) →
    (run list_meaning (service m.fonts m.bda regs block) (before m room)).0.fits ≡ true → AreInRange (cycles_of_call m regs block)
unfolding cycles_of_call
range_same m regs block room e =
    let p = service m.fonts m.bda regs block in
    subst AreInRange (cycles_fresh p m.card) (range_listed p (before m room) e).1

-- what a listed adapter has after a call, and what the call answered
abbrev pub LeftBy : Machine → Regs → List ℕ → ℕ → ListingCard → CallOutcome → Type 0
LeftBy m regs block room left answer = (left, answer) ≡ run list_meaning (service m.fonts m.bda regs block) (before m room)

pub written_by : (m : Machine) (regs : Regs) (block : List ℕ) (room : ℕ) (left : ListingCard) (answer : CallOutcome) → LeftBy m regs block room left answer →
    HasWritten (script_of_call_cycles m regs block) left.script
unfolding script_of_call_cycles
written_by m regs block room left answer e =
    subst (HasWritten (encoding (script_of_steps (cycles_of_call m regs block))))
    (sym (ap (λ (r : ListingCard × CallOutcome). r.0.script) e ∙ script_same m regs block room)) (script_written room (cycles_of_call m regs block))

-- a list that is a script
pub call_listed : (m : Machine) (regs : Regs) (block : List ℕ) (asked room : ℕ) (left : ListingCard) (script : BytesWritten) (reply : Reply) (after : BiosData) →
    LeftBy m regs block room left (Ok reply, after) → left.fits ≡ true → script ≡ left.script → left.script.len ≤ script_limit →
    ((n : ℕ) → n ≤ script_limit → n ≤ asked → n ≤ room) → IsCycleList m regs block asked script
unfolding script_of_call_cycles
call_listed m regs block asked room left script reply after e fits is few enough =
    let bytes = script_of_call_cycles m regs block in
    let wrote = written_by m regs block room left (Ok reply, after) e in
    let counted : left.script.len ≡ length bytes = wrote.counted few in
    let roomy : left.script.room ≡ room = ap (λ (r : ListingCard × CallOutcome). r.0.script.room) e ∙ ap (λ (s : BytesWritten). s.room) (script_same m regs block room)
    ∙ room_stays room (cycles_of_call m regs block) in
    let range = range_same m regs block room (sym (ap (λ (r : ListingCard × CallOutcome). r.0.fits) e) ∙ fits) in
    subst (IsCycleList m regs block asked) (sym is) (record {
      done = subst IsOk (ap (λ (r : ListingCard × CallOutcome). r.1.0) e ∙ ap (λ (a : CallOutcome). a.0) (answer_same m regs block room)) refl;
      spelled = script_spells (cycles_of_call m regs block) range (omega (arith, counted, few));
      counted = counted;
      kept = λ within. wrote.kept few (omega (arith, enough _ few within, roomy));
    })

-- one that is too long
pub call_too_long : (m : Machine) (regs : Regs) (block : List ℕ) (room : ℕ) (left : ListingCard) (answer : CallOutcome) (why : Unlisted) →
    LeftBy m regs block room left answer → why ≡ TooLong → script_limit < left.script.len → IsUnlisted m regs block why
call_too_long m regs block room left answer why e is long =
    subst (IsUnlisted m regs block) (sym is) ((written_by m regs block room left answer e).too_long long)

-- a call that is refused
pub call_refused : (m : Machine) (regs : Regs) (block : List ℕ) (room : ℕ) (left : ListingCard) (why : Refusal) (after : BiosData) →
    LeftBy m regs block room left (Err why, after) → (after_int10 m regs.ax regs.bx regs.cx regs.dx block).1.0 ≡ Err why
call_refused m regs block room left why after e =
    sym (ap (λ (r : ListingCard × CallOutcome). r.1.0) e ∙ ap (λ (a : CallOutcome). a.0) (answer_same m regs block room))

-- what the call leaves of a copy of the machine
pub call_left : (m : Machine) (regs : Regs) (block : List ℕ) (room : ℕ) (old : BiosData) (listed left : ListingCard) (answer : CallOutcome) → old ≡ m.bda →
    listed ≡ before m room → (left, answer) ≡ run list_meaning (service m.fonts old regs block) listed → LeftBy m regs block room left answer
call_left m regs block room old listed left answer same copied went =
    went ∙ ap (λ d. run list_meaning (service m.fonts d regs block) listed) same ∙ ap (run list_meaning (service m.fonts m.bda regs block)) copied

-- what follows of one case follows of the other
pub if_ok : {A E : Type 0} {P Q : A → Type 0} (r : Result A E) → ((x : A) → P x → Q x) → IfOk r P → IfOk r Q
if_ok (Ok x) f p = f x p
if_ok (Err e) f p = p

pub if_err : {A E : Type 0} {P Q : E → Type 0} (r : Result A E) → ((e : E) → P e → Q e) → IfErr r P → IfErr r Q
if_err (Ok x) f p = p
if_err (Err e) f p = f e p

-- ---- the cycles are the call

taken : {A : Type 0} (p : Plan A) (m : Machine) (c : CardState) → after_steps (record m { card = c }) (cycles_of_plan p c)
    ≡ record m { card = (run card_meaning p c).0 }
unfolding after_step
taken (Done a) m c = refl
taken (Write (AtPort port) v rest) m c = taken rest m (card_write c (AtPort port) v).0
taken (Write (AtAddress address) v rest) m c = taken rest m (card_write c (AtAddress address) v).0
taken (Read (AtPort port) rest) m c = let r = card_read c (AtPort port) in taken (rest (read_byte_or_ff r.1)) m r.0
taken (Read (AtAddress address) rest) m c = let r = card_read c (AtAddress address) in taken (rest (read_byte_or_ff r.1)) m r.0

pub call_taken : (m : Machine) (regs : Regs) (block : List ℕ) → after_steps m (cycles_of_call m regs block)
    ≡ record m { card = (after_int10 m regs.ax regs.bx regs.cx regs.dx block).0 }
unfolding cycles_of_call after_int10
call_taken m regs block = taken (service m.fonts m.bda regs block) m m.card

byte_same : (r : Result ℕ Refusal) → byte_answered_or_ff (Short (of_byte r)) ≡ read_byte_or_ff r
byte_same (Ok v) = refl
byte_same (Err e) = refl

told : {A : Type 0} (p : Plan A) (m : Machine) (c : CardState) → plan_answer_from_bytes p (bytes_read_by_steps (record m { card = c }) (cycles_of_plan p c)) ≡ (run card_meaning p c).1
unfolding after_step answer_to
told (Done a) m c = refl
told (Write (AtPort port) v rest) m c = told rest m (card_write c (AtPort port) v).0
told (Write (AtAddress address) v rest) m c = told rest m (card_write c (AtAddress address) v).0
told (Read (AtPort port) rest) m c =
    let r = card_read c (AtPort port) in
    ap (λ b. plan_answer_from_bytes (rest b) (bytes_read_by_steps (record m { card = r.0 }) (cycles_of_plan (rest (read_byte_or_ff r.1)) r.0))) (byte_same r.1)
    ∙ told (rest (read_byte_or_ff r.1)) m r.0
told (Read (AtAddress address) rest) m c =
    let r = card_read c (AtAddress address) in
    ap (λ b. plan_answer_from_bytes (rest b) (bytes_read_by_steps (record m { card = r.0 }) (cycles_of_plan (rest (read_byte_or_ff r.1)) r.0))) (byte_same r.1)
    ∙ told (rest (read_byte_or_ff r.1)) m r.0

pub call_told : (m : Machine) (regs : Regs) (block : List ℕ) → plan_answer_from_bytes (service m.fonts m.bda regs block) (bytes_read_by_steps m (cycles_of_call m regs block))
    ≡ (after_int10 m regs.ax regs.bx regs.cx regs.dx block).1
unfolding cycles_of_call after_int10
call_told m regs block = told (service m.fonts m.bda regs block) m m.card
