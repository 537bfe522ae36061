-- Writing a report, line by line.
use Rattle.std.proofs.Common.{◌≡◌, inl, inr, ℕ, zero, suc, ◌+◌, ◌<◌, ◌≤◌, Bool, false, List, [], ◌∷◌, ◌++◌, length, get_or, take, drop, Option, None, Some, Result, Ok, Err}
use Rattle.std.proofs.Common.{arith, refl, sym, ap, ◌∙◌, subst, append_assoc, append-nil, add-one, drop-cons, take-append-drop, codes}
use Rattle.std.proofs.Math.Seq.{take-suc}
use Rattle.std.proofs.lemmas.List.{take_all, length-take-le}
use Rattle.std.specs.Prelude.{OnOk}
use Rattle.std.specs.Io.KnownBytes.{Appends}
use Rattle.std.proofs.KnownBytes.{Appends-nil, Appends-trans}
use Rattle.vga_bits.specs.Tracked.{AppendsPrefix, WritesWholeOrPrefix}
use Rattle.vga_bits.specs.declared.fault.Fault.{Fault}
use Rattle.vga_bits.specs.Refusal.{refusal_name}
use Rattle.vga_bits.specs.declared.refusal.Refusal.{Refusal}
use Rattle.vga_bits.specs.declared.refusal.Refusal.TheVariants.{NotDecoded, NotInProfile, NoMode, BadFunction, BadMode, WrongKind, BadPage, Outside, CountPast}
use Rattle.vga_bits.specs.declared.refusal.Refusal.TheVariants.{BadRegister, BadBlock, TooFar, BadHeight}
use Rattle.bios_services.specs.declared.reply.Reply.{Reply as ServiceReply}
use Rattle.vga_script.specs.declared.step.Step.{Step}
use Rattle.vga_script.specs.declared.step.Step.TheVariants.{Int}
use Rattle.vga_script.specs.Step.{IsInRange, AreInRange}
use Rattle.vga_run.specs.declared.machine.Machine.{Machine}
use Rattle.bios_modes.specs.Valid.{IsValid}
use Rattle.vga_run.specs.Step.{AllocatesMemory, answer_to, after_step, after_steps, after_int10}
use Rattle.vga_run.specs.Run.{WritesStep, RunsOutOfMemoryIn, WritesReport, IsTakenOrNot, HasTakenFirstSteps}
use Rattle.vga_show.specs.Ppm.{ppm}
use Rattle.vga_bits.proofs.WritingLemmas.{writes_after, writes_more, prefix_of_more}
use Rattle.vga_card.specs.Card.{CardState}
use Rattle.vga_card.specs.Bus.{card_meaning}
use Rattle.bios_modes.specs.Bda.{BiosData}
use Rattle.bios_services.specs.declared.reply.ServiceError.{ServiceError}
use Rattle.bios_services.specs.declared.reply.ServiceError.TheVariants as service
use Rattle.bios_services.specs.Tables.{table_bytes}
use Rattle.bios_services.specs.Service.{CallOutcome, MayAnswer}
use Rattle.bios_services.specs.Service.{service as asked_service}
use Rattle.vga_run.specs.declared.answer.Answer.TheVariants.{Refused}
use Rattle.vga_run.specs.Answer.{Short, Served, Picture, of_service, of_dump}
use Rattle.vga_run.specs.Report.{line_before_picture, line, number_text, report_from}

-- no refusal has a name of more than 15 bytes
pub name_is_short : (refusal : Refusal) → length (refusal_name refusal) ≤ 15
name_is_short NotDecoded = omega arith
name_is_short NotInProfile = omega arith
name_is_short NoMode = omega arith
name_is_short BadFunction = omega arith
name_is_short BadMode = omega arith
name_is_short WrongKind = omega arith
name_is_short BadPage = omega arith
name_is_short Outside = omega arith
name_is_short CountPast = omega arith
name_is_short BadRegister = omega arith
name_is_short BadBlock = omega arith
name_is_short TooFar = omega arith
name_is_short BadHeight = omega arith

-- what stands after the number in the line of a dump: its lines, or why it is refused
abbrev pub after_number : Option Refusal → List ℕ → List ℕ
after_number None text = text
after_number (Some why) text = refusal_name why ++ codes "\n"

pub dump_line : (n : ℕ) (why : Option Refusal) (text : List ℕ) → line n (of_dump why text) ≡ number_text n ++ after_number why text
unfolding line number_text
dump_line n None text = refl
dump_line n (Some why) text = simp append_assoc

pub prefix_of_dump : (old new : Option (List ℕ)) (n : ℕ) (why : Option Refusal) (text : List ℕ) → AppendsPrefix old new (number_text n)
    → AppendsPrefix old new (line n (of_dump why text))
prefix_of_dump old new n why text a =
    subst (AppendsPrefix old new) (sym (dump_line n why text)) (prefix_of_more old new (number_text n) (after_number why text) a)

-- what a call that writes the line of a step answers is what taking the step does
pub step_is_written : (before after : Option (List ℕ)) (failed : Bool) (result : Result Unit Fault) (machine : Machine) (n : ℕ) (step : Step)
    → WritesWholeOrPrefix before after failed result (line n (answer_to machine step)) → WritesStep before after failed result machine n step
step_is_written before after failed (Ok u) machine n step w = w
step_is_written before after failed (Err e) machine n step w = inl w

-- what interrupt 10 answers and leaves
abbrev pub Answers : Machine → ℕ → ℕ → ℕ → ℕ → List ℕ → Result ServiceReply ServiceError → CardState → BiosData → Type 0
Answers m ax bx cx dx block result next bios = MayAnswer card_meaning (asked_service m.fonts m.bda (record { ax = ax; bx = bx; cx = cx; dx = dx }) block) m.card
    m.bda result next bios

-- and so is what one answers that writes the line of a service
pub reply_is_written : (before after : Option (List ℕ)) (failed : Bool) (result : Result Unit Fault) (machine : Machine) (n ax bx cx dx : ℕ) (block : List ℕ)
    (next : CardState) (bios : BiosData) (reply : ServiceReply)
    → (next, (Ok reply, bios)) ≡ after_int10 machine ax bx cx dx block → WritesWholeOrPrefix before after failed result (line n (Served reply.regs (table_bytes reply.table)))
    → WritesStep before after failed result machine n (Int ax bx cx dx block)
unfolding answer_to
reply_is_written before after failed result machine n ax bx cx dx block next bios reply is w =
    step_is_written before after failed result machine n (Int ax bx cx dx block) (subst
    (λ (c : CardState × CallOutcome). WritesWholeOrPrefix before after failed result (line n (of_service c.1.0))) is w)

pub refusal_is_written : (before after : Option (List ℕ)) (failed : Bool) (result : Result Unit Fault) (machine : Machine) (n ax bx cx dx : ℕ) (block : List ℕ)
    (next : CardState) (bios : BiosData) (error : ServiceError) (why : Refusal)
    → error ≡ service.Refused why → Answers machine ax bx cx dx block (Err error) next bios → WritesWholeOrPrefix before after failed result (line n (Short (Refused why)))
    → WritesStep before after failed result machine n (Int ax bx cx dx block)
unfolding answer_to after_int10
refusal_is_written before after failed result machine n ax bx cx dx block next bios (service.Refused other) why e is w =
    let same : other ≡ why = cc in
    step_is_written before after failed result machine n (Int ax bx cx dx block)
    (subst (λ (c : CardState × CallOutcome). WritesWholeOrPrefix before after failed result (line n (of_service c.1.0))) is
    (subst (λ (r : Refusal). WritesWholeOrPrefix before after failed result (line n (Short (Refused r)))) (sym same) w))
refusal_is_written before after failed result machine n ax bx cx dx block next bios service.OutOfMemory why e is w = absurd (cc)

-- ---- some steps and others

-- some steps and others lead where the others do from where the first lead
state_joined : (machine : Machine) (steps others : List Step) → after_steps machine (steps ++ others) ≡ after_steps (after_steps machine steps) others
state_joined machine [] others = refl
state_joined machine (step ∷ steps) others = state_joined (after_step machine step) steps others

-- the report of some steps and others is that of the first, and that of the others from where they lead
report_joined : (machine : Machine) (n : ℕ) (steps others : List Step) → report_from machine n (steps ++ others) ≡ report_from machine n steps
    ++ report_from (after_steps machine steps) (n + length steps) others
report_joined machine n [] others = let same : n ≡ n + 0 = omega arith in ap (λ (k : ℕ). report_from machine k others) same
report_joined machine n (step ∷ steps) others =
    let here = line n (answer_to machine step) in
    let later = after_step machine step in
    let same : n + 1 + length steps ≡ n + suc (length steps) = omega arith in
    ap (λ (l : List ℕ). here ++ l) (report_joined later (n + 1) steps others)
    ∙ sym (append_assoc here (report_from later (n + 1) steps) (report_from (after_steps later steps) (n + 1 + length steps) others))
    ∙ ap (λ (k : ℕ). (here ++ report_from later (n + 1) steps) ++ report_from (after_steps later steps) k others) same

-- a prefix of the lines of some steps is one of those of more
prefix_of_steps : (old new : Option (List ℕ)) (machine : Machine) (n : ℕ) (steps others : List Step) → AppendsPrefix old new (report_from machine n steps) →
    AppendsPrefix old new (report_from machine n (steps ++ others))
prefix_of_steps old new machine n steps others a =
    subst (AppendsPrefix old new) (sym (report_joined machine n steps others)) (prefix_of_more old new (report_from machine n steps)
    (report_from (after_steps machine steps) (n + length steps) others) a)

-- a prefix of what is written after some bytes is, with these, one of both
pub prefix_behind : (old mid new : Option (List ℕ)) (first second : List ℕ) → Appends old mid first → AppendsPrefix mid new second →
    AppendsPrefix old new (first ++ second)
prefix_behind old mid new first second a (prefix, back, parts, more) =
    (first ++ prefix, back, ap (λ (l : List ℕ). first ++ l) parts ∙ simp append_assoc, Appends-trans old mid new first prefix a more)

-- memory that runs out among some steps runs out among more
stops_in_prefix : (old new : Option (List ℕ)) (machine : Machine) (n : ℕ) (steps others : List Step) → RunsOutOfMemoryIn machine n steps old new →
    RunsOutOfMemoryIn machine n (steps ++ others) old new
stops_in_prefix old new machine n steps others (done, step, rest, parts, is_prefix_taken, a) =
    (done, step, rest ++ others, ap (λ (l : List Step). l ++ others) parts ∙ append_assoc done (step ∷ rest) others, is_prefix_taken, a)

-- and memory that runs out among the others does so after the first
stops_behind : (old mid new : Option (List ℕ)) (machine : Machine) (n : ℕ) (steps others : List Step) → Appends old mid (report_from machine n steps)
    → RunsOutOfMemoryIn (after_steps machine steps) (n + length steps) others mid new → RunsOutOfMemoryIn machine n (steps ++ others) old new
stops_behind old mid new machine n steps others a (done, step, rest, parts, is_prefix_taken, more) =
    let next = after_steps machine steps in (
      steps ++ done,
      step,
      rest,
      ap (λ (l : List Step). steps ++ l) parts ∙ sym (append_assoc steps done (step ∷ rest)),
      subst (λ (m : Machine). AllocatesMemory m step) (sym (state_joined machine steps done)) is_prefix_taken,
      subst (Appends old new) (sym (report_joined machine n steps done)) (Appends-trans old mid new (report_from machine n steps)
          (report_from next (n + length steps) done) a more),
    )

-- so what ends the first steps early ends them all
pub err_of_more : (old new : Option (List ℕ)) (failed : Bool) (e : Fault) (machine : Machine) (n : ℕ) (steps others : List Step)
    → WritesReport old new failed (Err e) machine n steps → WritesReport old new failed (Err e) machine n (steps ++ others)
err_of_more old new failed e machine n steps others (inl (is, bad, prefix)) = inl (is, bad, prefix_of_steps old new machine n steps others prefix)
err_of_more old new failed e machine n steps others (inr (is, sound, stops)) = inr (is, sound, stops_in_prefix old new machine n steps others stops)

-- and the others are taken after the first
others_behind : (old mid new : Option (List ℕ)) (failed : Bool) (result : Result Unit Fault) (machine : Machine) (n : ℕ) (steps others : List Step)
    → Appends old mid (report_from machine n steps) → WritesReport mid new failed result (after_steps machine steps) (n + length steps) others
    → WritesReport old new failed result machine n (steps ++ others)
others_behind old mid new failed (Ok u) machine n steps others a (more, sound) =
    let rest = report_from (after_steps machine steps) (n + length steps) others in
    (subst (Appends old new) (sym (report_joined machine n steps others)) (Appends-trans old mid new (report_from machine n steps) rest a more), sound)
others_behind old mid new failed (Err e) machine n steps others a (inl (is, bad, prefix)) =
    let rest = report_from (after_steps machine steps) (n + length steps) others in
    inl (
      is,
      bad,
      subst (AppendsPrefix old new) (sym (report_joined machine n steps others))
          (prefix_behind old mid new (report_from machine n steps) rest a prefix),
    )
others_behind old mid new failed (Err e) machine n steps others a (inr (is, sound, stops)) =
    inr (is, sound, stops_behind old mid new machine n steps others a stops)

pub writes_others : (old mid new : Option (List ℕ)) (failed : Bool) (result : Result Unit Fault) (machine next : Machine) (n k : ℕ) (steps others : List Step)
    → next ≡ after_steps machine steps → k ≡ n + length steps → Appends old mid (report_from machine n steps) → WritesReport mid new failed result next k others
    → WritesReport old new failed result machine n (steps ++ others)
writes_others old mid new failed result machine next n k steps others state number a w =
    let from : WritesReport mid new failed result (after_steps machine steps) k others =
    subst (λ (m : Machine). WritesReport mid new failed result m k others) state w in
    others_behind old mid new failed result machine n steps others a (subst (λ (j : ℕ). WritesReport mid new failed result (after_steps machine steps) j others)
    number from)

-- ---- one step after another

-- The first i steps are taken, of which the first has this number, and their lines are written.
pub record Reported (old new : Option (List ℕ)) (failed : Bool) (start machine : Machine) (first : ℕ) (steps : List Step) (i : ℕ) : Type 0 where
  pub state : machine ≡ after_steps start (take i steps)
  pub appended : Appends old new (report_from start first (take i steps))
  pub sound : failed ≡ false
  pub valid : IsValid machine.bda

-- the items of a list up to item i, and this one
pub items_to : {X : Type 0} (items : List X) (i : ℕ) (d item : X) → i < length items → item ≡ get_or items i d → take (i + 1) items ≡ take i items ++ item ∷ []
items_to items i d item within is = rw (add-one, take-suc items i d, is) refl

-- the steps up to step i, this one, and the others
steps_around : (steps : List Step) (i : ℕ) (d step : Step) → i < length steps → step ≡ get_or steps i d → steps ≡ take i steps ++ step ∷ drop (i + 1) steps
steps_around steps i d step within is =
    let from : drop i steps ≡ step ∷ drop (i + 1) steps = rw (add-one, drop-cons steps i d, is) refl in
    sym (take-append-drop i steps) ∙ ap (λ (l : List Step). take i steps ++ l) from

-- the line of step i, as the report of this step alone from where those before lead
line_alone : (start machine : Machine) (first : ℕ) (steps : List Step) (i : ℕ) (step : Step) → i < length steps → machine ≡ after_steps start (take i steps)
    → line (first + i) (answer_to machine step) ≡ report_from (after_steps start (take i steps)) (first + length (take i steps)) (step ∷ [])
line_alone start machine first steps i step within state =
    let count : i ≡ length (take i steps) = sym (length-take-le i steps (omega arith)) in
    ap (λ (m : Machine). line (first + i) (answer_to m step)) state
    ∙ ap (λ (k : ℕ). line (first + k) (answer_to (after_steps start (take i steps)) step)) count
    ∙ sym (append-nil (line (first + length (take i steps)) (answer_to (after_steps start (take i steps)) step)))

-- so the lines up to step i and its own are those of the steps up to this one
lines_to : (start machine : Machine) (first : ℕ) (steps : List Step) (i : ℕ) (d step : Step) → i < length steps → step ≡ get_or steps i d →
    machine ≡ after_steps start (take i steps)
    → report_from start first (take i steps) ++ line (first + i) (answer_to machine step) ≡ report_from start first (take (i + 1) steps)
lines_to start machine first steps i d step within is state =
    ap (λ (l : List ℕ). report_from start first (take i steps) ++ l) (line_alone start machine first steps i step within state)
    ∙ sym (report_joined start first (take i steps) (step ∷ []))
    ∙ ap (report_from start first) (sym (items_to steps i d step within is))

-- no step yet
pub reported_none : (old : Option (List ℕ)) (failed : Bool) (start : Machine) (first : ℕ) (steps : List Step) → failed ≡ false → IsValid start.bda →
    Reported old old failed start start first steps 0
reported_none old failed start first steps e v = record { state = refl; appended = Appends-nil old; sound = e; valid = v }

-- where one more step leads
state_more : (start machine next : Machine) (steps : List Step) (i : ℕ) (d step : Step) → machine ≡ after_steps start (take i steps) → i < length steps
    → step ≡ get_or steps i d → next ≡ after_step machine step → next ≡ after_steps start (take (i + 1) steps)
state_more start machine next steps i d step state within is en =
    en ∙ ap (λ (m : Machine). after_step m step) state ∙ sym (state_joined start (take i steps) (step ∷ []))
    ∙ ap (after_steps start) (sym (items_to steps i d step within is))

-- whether it is taken or not, some of the first steps are
pub way_more : (start machine next : Machine) (steps : List Step) (i : ℕ) (d step : Step) → machine ≡ after_steps start (take i steps) → i < length steps
    → step ≡ get_or steps i d → IsTakenOrNot machine step next → HasTakenFirstSteps start steps next
way_more start machine next steps i d step state within is (inl same) = (i, same ∙ state)
way_more start machine next steps i d step state within is (inr en) = (i + 1, state_more start machine next steps i d step state within is en)

-- where all steps are taken, and then others
pub others_after : (result : Result Unit Fault) (machine next new : Machine) (steps others : List Step) → next ≡ after_steps machine steps
    → OnOk result (new ≡ after_steps next others) → OnOk result (new ≡ after_steps machine (steps ++ others))
others_after (Ok u) machine next new steps others state after =
    after ∙ ap (λ (m : Machine). after_steps m others) state ∙ sym (state_joined machine steps others)
others_after (Err e) machine next new steps others state after = tt

-- one more step
pub reported_more : (old mid new : Option (List ℕ)) (was failed : Bool) (start machine next : Machine) (first : ℕ) (steps : List Step) (i n : ℕ) (d step : Step)
    → Reported old mid was start machine first steps i → n ≡ first + i → i < length steps → step ≡ get_or steps i d → next ≡ after_step machine step
    → Appends mid new (line n (answer_to machine step)) → failed ≡ false → IsValid next.bda → Reported old new failed start next first steps (i + 1)
reported_more old mid new was failed start machine next first steps i n d step h number within is en a e v =
    let here = line (first + i) (answer_to machine step) in
    let more = subst (λ k. Appends mid new (line k (answer_to machine step))) number a in
    record {
      state = state_more start machine next steps i d step h.state within is en;
      appended = subst (Appends old new) (lines_to start machine first steps i d step within is h.state)
          (Appends-trans old mid new (report_from start first (take i steps)) here h.appended more);
      sound = e;
      valid = v;
    }

-- a prefix of one more line
reported_prefix : (old mid new : Option (List ℕ)) (was : Bool) (start machine : Machine) (first : ℕ) (steps : List Step) (i : ℕ) (d step : Step)
    → Reported old mid was start machine first steps i → i < length steps → step ≡ get_or steps i d
    → AppendsPrefix mid new (line (first + i) (answer_to machine step)) → AppendsPrefix old new (report_from start first steps)
reported_prefix old mid new was start machine first steps i d step h within is a =
    let lines = report_from start first (take i steps) in
    let here = line (first + i) (answer_to machine step) in
    let prefix = subst (AppendsPrefix old new) (lines_to start machine first steps i d step within is h.state)
    (prefix_behind old mid new lines here h.appended a) in
    subst (λ (l : List Step). AppendsPrefix old new (report_from start first l)) (take-append-drop (i + 1) steps)
    (prefix_of_steps old new start first (take (i + 1) steps) (drop (i + 1) steps) prefix)

-- what ends one more step early ends them all
err_reported : (old mid new : Option (List ℕ)) (was failed : Bool) (e : Fault) (start machine : Machine) (first : ℕ) (steps : List Step) (i : ℕ) (d step : Step)
    → Reported old mid was start machine first steps i → i < length steps → step ≡ get_or steps i d
    → WritesStep mid new failed (Err e) machine (first + i) step → WritesReport old new failed (Err e) start first steps
err_reported old mid new was failed e start machine first steps i d step h within is (inl (fails, bad, prefix)) =
    inl (fails, bad, reported_prefix old mid new was start machine first steps i d step h within is prefix)
err_reported old mid new was failed e start machine first steps i d step h within is (inr (wants, sound, is_prefix_taken, same)) =
    inr (
      wants,
      sound,
      (
        take i steps,
        step,
        drop (i + 1) steps,
        steps_around steps i d step within is,
        subst (λ (m : Machine). AllocatesMemory m step) h.state is_prefix_taken,
        subst (λ (contents : Option (List ℕ)). Appends old contents (report_from start first (take i steps))) (sym same) h.appended,
      ),
    )

pub reported_err : (old mid new : Option (List ℕ)) (was failed : Bool) (e : Fault) (start machine : Machine) (first : ℕ) (steps : List Step) (i n : ℕ)
    (d step : Step)
    → Reported old mid was start machine first steps i → n ≡ first + i → i < length steps → step ≡ get_or steps i d
    → WritesStep mid new failed (Err e) machine n step → WritesReport old new failed (Err e) start first steps
reported_err old mid new was failed e start machine first steps i n d step h number within is w =
    err_reported old mid new was failed e start machine first steps i d step h within is
    (subst (λ k. WritesStep mid new failed (Err e) machine k step) number w)

-- all steps
pub reported_all : (old new : Option (List ℕ)) (failed : Bool) (start machine : Machine) (first : ℕ) (steps : List Step) (i : ℕ)
    → Reported old new failed start machine first steps i → length steps ≤ i → Appends old new (report_from start first steps)
    × (machine ≡ after_steps start steps)
reported_all old new failed start machine first steps i h past =
    let all : take i steps ≡ steps = take_all i steps past in
    (subst (λ (l : List Step). Appends old new (report_from start first l)) all h.appended, h.state ∙ ap (after_steps start) all)

-- a report is written where, after it, nothing more is
pub report_is_flushed : (old mid new : Option (List ℕ)) (failed : Bool) (result : Result Unit Fault) (machine : Machine) (n : ℕ) (steps : List Step)
    → Appends old mid (report_from machine n steps) → WritesWholeOrPrefix mid new failed result [] → WritesReport old new failed result machine n steps
report_is_flushed old mid new failed (Ok u) machine n steps a w = writes_more {U = Unit} old mid new failed (Ok u) (report_from machine n steps) a w
report_is_flushed old mid new failed (Err e) machine n steps a w = inl (writes_more {U = Unit} old mid new failed (Err e) (report_from machine n steps) a w)

-- the fields of a step fit where those of all do
pub one_in_range : (steps : List Step) (i : ℕ) (d step : Step) → AreInRange steps → i < length steps → step ≡ get_or steps i d → IsInRange step
one_in_range [] i d step all within is = absurd (omega arith)
one_in_range (s ∷ steps) zero d step all within is = subst IsInRange (sym is) all.0
one_in_range (s ∷ steps) (suc i) d step all within is = one_in_range steps i d step all.1 (omega arith) is

-- and those of the first steps do
pub first_in_range : (steps : List Step) (n : ℕ) → AreInRange steps → AreInRange (take n steps)
first_in_range steps zero all = tt
first_in_range [] (suc n) all = tt
first_in_range (s ∷ steps) (suc n) all = (all.0, first_in_range steps n all.1)

-- ---- pictures

-- after its line a call writes the picture of a step
pub writes_picture : {U : Type 0} (old mid new : Option (List ℕ)) (failed : Bool) (result : Result U Fault) (n width height len : ℕ) (bytes : List ℕ)
    → len ≡ length (ppm width height bytes) → Appends old mid (line_before_picture n len) → WritesWholeOrPrefix mid new failed result (ppm width height bytes ++ codes "\n")
    → WritesWholeOrPrefix old new failed result (line n (Picture width height bytes))
unfolding line
writes_picture {U} old mid new failed result n width height len bytes whole a w =
    let head = subst (λ (k : ℕ). Appends old mid (line_before_picture n k)) whole a in
    writes_after old mid new failed result (line_before_picture n (length (ppm width height bytes))) (ppm width height bytes ++ codes "\n") head w

-- a prefix of its line is a prefix of both
pub prefix_of_picture : (old new : Option (List ℕ)) (n width height len : ℕ) (bytes : List ℕ)
    → len ≡ length (ppm width height bytes) → AppendsPrefix old new (line_before_picture n len) → AppendsPrefix old new (line n (Picture width height bytes))
unfolding line
prefix_of_picture old new n width height len bytes whole a =
    let head = subst (λ (k : ℕ). AppendsPrefix old new (line_before_picture n k)) whole a in
    prefix_of_more old new (line_before_picture n (length (ppm width height bytes))) (ppm width height bytes ++ codes "\n") head
