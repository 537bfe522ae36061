-- No step tells a machine that was saved and restored from the original.
use Rattle.std.proofs.Common.{◌≡◌, ◌∙◌, ℕ, zero, suc, ◌+◌, Bool, true, false, nat_le, if◌then◌else◌, Option, Some, None, Result, Ok, Err, refl}
use Rattle.std.proofs.Common.{sym, ap, ap₂, arith}
use Rattle.std.proofs.Common.{List, [], ◌∷◌, ◌++◌}
use Rattle.vga_bits.specs.declared.refusal.Refusal.{Refusal}
use Rattle.vga_bits.specs.declared.refusal.Refusal.TheVariants.{TooFar}
use Rattle.vga_card.specs.Card.{CardState}
use Rattle.vga_card.specs.Picture.{Dot, row_count}
use Rattle.vga_card.specs.Cycles.{WriteResult, ReadResult}
use Rattle.vga_card.specs.Dots.{dots, most_dots_of_an_advance}
use Rattle.vga_card.specs.FreshCanvas.{without_dots_of_ended_frame, outcome_without_dots_of_ended_frame}
use Rattle.vga_card.proofs.DotLemmas.{dots_none}
use Rattle.vga_card.proofs.FreshCanvasLemmas.{cannot_be_told}
use Rattle.vga_script.specs.declared.dump_range.Shown.{Shown}
use Rattle.vga_script.specs.declared.dump_range.Shown.TheVariants as shown
use Rattle.vga_script.specs.declared.step.Step.{Step}
use Rattle.vga_script.specs.declared.step.Step.TheVariants.{Out, OutWord, In, InWord, Put, PutWord, Get, GetWord, Int, Advance, Frame, Show}
use Rattle.bios_modes.specs.Bda.{BiosData}
use Rattle.bios_services.specs.Service.{CallOutcome as Served, service}
use Rattle.bios_services.proofs.CardLemmas.{plan_fresh}
use Rattle.vga_show.specs.Beam.{beam_text_with_row_count}
use Rattle.vga_show.specs.Cells.{row_text, rows_text, cells_refusal, cells_text}
use Rattle.vga_run.specs.declared.machine.Machine.{Machine}
use Rattle.vga_run.specs.Answer.{StepAnswer, Short, of_write, of_byte, of_word, of_service, of_frame, of_dump}
use Rattle.vga_run.specs.Step.{dump_text, dump_refusal, after_int10, advance_cycle, answer_to, after_step}
use Rattle.vga_run.specs.Report.{line, report_from}
use Rattle.vga_run.specs.Saved.{machine_without_unseen_dots}

-- ---- what is not saved

twice : (c : CardState) → without_dots_of_ended_frame (without_dots_of_ended_frame c) ≡ without_dots_of_ended_frame c
twice c = ap (λ (drawn : List Dot). record c { drawn = drawn }) (cannot_be_told.fresh c)

dots_twice : (n : ℕ) (c : CardState) → without_dots_of_ended_frame (dots n (without_dots_of_ended_frame c)) ≡ without_dots_of_ended_frame (dots n c)
dots_twice zero c = ap without_dots_of_ended_frame (dots_none (without_dots_of_ended_frame c)) ∙ twice c ∙ ap without_dots_of_ended_frame (sym (dots_none c))
dots_twice (suc n) c = ap without_dots_of_ended_frame (cannot_be_told.dots (suc n) c (omega arith))

answer_by : (few : Bool) (c : CardState) (count : ℕ) → (let x : WriteResult = (if few then (dots count (without_dots_of_ended_frame c), Ok tt) else
    (without_dots_of_ended_frame c, Err TooFar)) in x).1
    ≡ (let x : WriteResult = (if few then (dots count c, Ok tt) else (c, Err TooFar)) in x).1
answer_by true c count = refl
answer_by false c count = refl

advance_same : (c : CardState) (count : ℕ) → (advance_cycle (without_dots_of_ended_frame c) count).1 ≡ (advance_cycle c count).1
advance_same c count = answer_by (nat_le count most_dots_of_an_advance) c count

after_by : (few : Bool) (c : CardState) (count : ℕ)
    → without_dots_of_ended_frame (let x : WriteResult = (if few then (dots count (without_dots_of_ended_frame c), Ok tt) else (without_dots_of_ended_frame c, Err TooFar)) in x).0
    ≡ without_dots_of_ended_frame (let x : WriteResult = (if few then (dots count c, Ok tt) else (c, Err TooFar)) in x).0
after_by true c count = dots_twice count c
after_by false c count = twice c

advance_after : (c : CardState) (count : ℕ) → without_dots_of_ended_frame (advance_cycle (without_dots_of_ended_frame c) count).0 ≡ without_dots_of_ended_frame (advance_cycle c count).0
advance_after c count = after_by (nat_le count most_dots_of_an_advance) c count

-- ---- dumps

rows_same : (c : CardState) (bda : BiosData) (n row : ℕ) → rows_text (without_dots_of_ended_frame c) bda n row ≡ rows_text c bda n row
unfolding rows_text
rows_same c bda zero row = refl
rows_same c bda (suc n) row = ap (λ (l : List ℕ). row_text c bda row ++ l) (rows_same c bda n (row + 1))

cells_same : (why : Option Refusal) (c : CardState) (bda : BiosData) → cells_text why (without_dots_of_ended_frame c) bda ≡ cells_text why c bda
cells_same None c bda = rows_same c bda (bda.last_row + 1) 0
cells_same (Some why) c bda = refl

dump_same : (m : Machine) (what : Shown) → dump_text (machine_without_unseen_dots m) what ≡ dump_text m what
unfolding dump_text
dump_same m shown.Registers = refl
dump_same m (shown.Dac index) = refl
dump_same m shown.Beam = ap (λ (drawn : List Dot). beam_text_with_row_count m.card.crtc.beam (row_count drawn)) (cannot_be_told.fresh m.card)
dump_same m shown.Latches = refl
dump_same m (shown.Plane plane offset count) = refl
dump_same m shown.BiosData = refl
dump_same m shown.Cells = cells_same (cells_refusal m.bda.mode) m.card m.bda

refusal_same : (m : Machine) (what : Shown) → dump_refusal (machine_without_unseen_dots m) what ≡ dump_refusal m what
unfolding dump_refusal
refusal_same m shown.Registers = refl
refusal_same m (shown.Dac index) = refl
refusal_same m shown.Beam = refl
refusal_same m shown.Latches = refl
refusal_same m (shown.Plane plane offset count) = refl
refusal_same m shown.BiosData = refl
refusal_same m shown.Cells = refl

-- ---- steps

-- a call of interrupt 10
called_same : (m : Machine) (ax bx cx dx : ℕ) (block : List ℕ) → after_int10 (machine_without_unseen_dots m) ax bx cx dx block
    ≡ outcome_without_dots_of_ended_frame (after_int10 m ax bx cx dx block)
unfolding after_int10
called_same m ax bx cx dx block = plan_fresh (service m.fonts m.bda (record { ax = ax; bx = bx; cx = cx; dx = dx }) block) m.card

pub answer_same : (m : Machine) (step : Step) → answer_to (machine_without_unseen_dots m) step ≡ answer_to m step
unfolding answer_to
answer_same m (Out port value) = ap (λ (w : WriteResult). Short (of_write w.1)) (cannot_be_told.out m.card port value)
answer_same m (OutWord port value) = ap (λ (w : WriteResult). Short (of_write w.1)) (cannot_be_told.out_word m.card port value)
answer_same m (In port) = ap (λ (a : ReadResult). Short (of_byte a.1)) (cannot_be_told.inp m.card port)
answer_same m (InWord port) = ap (λ (a : ReadResult). Short (of_word a.1)) (cannot_be_told.inp_word m.card port)
answer_same m (Put address value) = ap (λ (w : WriteResult). Short (of_write w.1)) (cannot_be_told.put m.card address value)
answer_same m (PutWord address value) = ap (λ (w : WriteResult). Short (of_write w.1)) (cannot_be_told.put_word m.card address value)
answer_same m (Get address) = ap (λ (a : ReadResult). Short (of_byte a.1)) (cannot_be_told.get m.card address)
answer_same m (GetWord address) = ap (λ (a : ReadResult). Short (of_word a.1)) (cannot_be_told.get_word m.card address)
answer_same m (Int ax bx cx dx block) = ap (λ (s : CardState × Served). of_service s.1.0) (called_same m ax bx cx dx block)
answer_same m (Advance count) = ap (λ (r : Result Unit Refusal). Short (of_write r)) (advance_same m.card count)
answer_same m Frame = ap (λ (c : CardState). of_frame c.drawn) (cannot_be_told.frame m.card)
answer_same m (Show what) = ap₂ of_dump (refusal_same m what) (dump_same m what)

-- a machine with this adapter, without the dots that no step can see any more
abbrev with_card : Machine → CardState → Machine
with_card m c = record m { card = without_dots_of_ended_frame c }

once : (m : Machine) (c : CardState) → with_card m (without_dots_of_ended_frame c) ≡ with_card m c
once m c = ap (λ (s : CardState). record m { card = s }) (twice c)

pub after_same : (m : Machine) (step : Step) → machine_without_unseen_dots (after_step (machine_without_unseen_dots m) step)
    ≡ machine_without_unseen_dots (after_step m step)
unfolding after_step
after_same m (Out port value) = ap (λ (w : WriteResult). with_card m w.0) (cannot_be_told.out m.card port value) ∙ once m _
after_same m (OutWord port value) =
    ap (λ (w : WriteResult). with_card m w.0) (cannot_be_told.out_word m.card port value) ∙ once m _
after_same m (In port) = ap (λ (a : ReadResult). with_card m a.0) (cannot_be_told.inp m.card port) ∙ once m _
after_same m (InWord port) = ap (λ (a : ReadResult). with_card m a.0) (cannot_be_told.inp_word m.card port) ∙ once m _
after_same m (Put address value) = ap (λ (w : WriteResult). with_card m w.0) (cannot_be_told.put m.card address value) ∙ once m _
after_same m (PutWord address value) =
    ap (λ (w : WriteResult). with_card m w.0) (cannot_be_told.put_word m.card address value) ∙ once m _
after_same m (Get address) = ap (λ (a : ReadResult). with_card m a.0) (cannot_be_told.get m.card address) ∙ once m _
after_same m (GetWord address) = ap (λ (a : ReadResult). with_card m a.0) (cannot_be_told.get_word m.card address) ∙ once m _
after_same m (Int ax bx cx dx block) =
    let after = after_int10 m ax bx cx dx block in
    ap (λ (s : CardState × Served). record m { card = without_dots_of_ended_frame s.0; bda = s.1.1 }) (called_same m ax bx cx dx block)
    ∙ ap (λ (c : CardState). record m { card = c; bda = after.1.1 }) (twice after.0)
after_same m (Advance count) = ap (λ (c : CardState). record m { card = c }) (advance_after m.card count)
after_same m Frame = ap (with_card m) (cannot_be_told.frame m.card)
after_same m (Show what) = once m m.card

-- ---- reports

-- two machines that are equal without those dots
alike : (m other : Machine) (n : ℕ) (steps : List Step) → machine_without_unseen_dots m ≡ machine_without_unseen_dots other
    → report_from m n steps ≡ report_from other n steps
alike m other n [] same = refl
alike m other n (step ∷ steps) same =
    let answers = sym (answer_same m step) ∙ ap (λ (x : Machine). answer_to x step) same ∙ answer_same other step in
    let leaves = sym (after_same m step) ∙ ap (λ (x : Machine). machine_without_unseen_dots (after_step x step)) same ∙ after_same other step in
    ap (λ (r : StepAnswer). line n r ++ report_from (after_step m step) (n + 1) steps) answers
    ∙ ap (λ (l : List ℕ). line n (answer_to other step) ++ l) (alike (after_step m step) (after_step other step) (n + 1) steps leaves)

pub report_same : (m : Machine) (n : ℕ) (steps : List Step) → report_from (machine_without_unseen_dots m) n steps ≡ report_from m n steps
report_same m n steps = alike (machine_without_unseen_dots m) m n steps (once m m.card)
