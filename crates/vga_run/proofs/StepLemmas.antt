-- Refused steps, from refused cycles.
use Rattle.std.proofs.Common.{◌≡◌, ℕ, List, Bool, true, false, nat_le, if◌then◌else◌, Option, Some, None, Result, Ok, Err, refl, ap}
use Rattle.vga_bits.specs.declared.refusal.Refusal.{Refusal}
use Rattle.vga_bits.specs.declared.refusal.Refusal.TheVariants.{TooFar}
use Rattle.vga_card.specs.declared.shape.Shape.{Shape}
use Rattle.vga_card.specs.Card.{CardState}
use Rattle.vga_card.specs.Cycles.{WriteResult, out_cycle, inp_cycle, put_cycle, get_cycle}
use Rattle.vga_card.specs.WordCycles.{out_word_cycle, inp_word_cycle, put_word_cycle, get_word_cycle}
use Rattle.vga_card.specs.Dots.{dots, most_dots_of_an_advance}
use Rattle.vga_card.specs.Frames.{frame}
use Rattle.vga_card.specs.Picture.{picture_shape, bytes_of_dots}
use Rattle.vga_script.specs.declared.step.Step.{Step}
use Rattle.vga_script.specs.declared.step.Step.TheVariants.{Out, OutWord, In, InWord, Put, PutWord, Get, GetWord, Int, Advance, Frame, Show}
use Rattle.bios_modes.specs.Bda.{BiosData}
use Rattle.bios_modes.specs.Fonts.{FontSet}
use Rattle.bios_services.specs.declared.regs.Regs.{Regs}
use Rattle.bios_services.specs.Plan.{run}
use Rattle.bios_services.specs.Service.{CallOutcome, service}
use Rattle.vga_card.specs.Bus.{card_meaning}
use Rattle.vga_run.specs.declared.machine.Machine.{Machine}
use Rattle.vga_run.specs.declared.answer.Answer.{Answer}
use Rattle.vga_run.specs.declared.answer.Answer.TheVariants.{Refused}
use Rattle.vga_run.specs.Answer.{Short, of_write, of_byte, of_word, of_service, of_shape}
use Rattle.vga_run.specs.Step.{advance_cycle, answer_to, after_step, after_int10}

-- the law that a refused cycle leaves the whole state
pub record RefusedCyclesChangeNothing : Type 0 where
  pub out : (c : CardState) (port v : ℕ) (e : Refusal) → (out_cycle c port v).1 ≡ Err e → (out_cycle c port v).0 ≡ c
  pub inp : (c : CardState) (port : ℕ) (e : Refusal) → (inp_cycle c port).1 ≡ Err e → (inp_cycle c port).0 ≡ c
  pub put : (c : CardState) (address v : ℕ) (e : Refusal) → (put_cycle c address v).1 ≡ Err e → (put_cycle c address v).0 ≡ c
  pub get : (c : CardState) (address : ℕ) (e : Refusal) → (get_cycle c address).1 ≡ Err e → (get_cycle c address).0 ≡ c
  pub out_word : (c : CardState) (port v : ℕ) (e : Refusal) → (out_word_cycle c port v).1 ≡ Err e → (out_word_cycle c port v).0 ≡ c
  pub inp_word : (c : CardState) (port : ℕ) (e : Refusal) → (inp_word_cycle c port).1 ≡ Err e → (inp_word_cycle c port).0 ≡ c
  pub put_word : (c : CardState) (address v : ℕ) (e : Refusal) → (put_word_cycle c address v).1 ≡ Err e → (put_word_cycle c address v).0 ≡ c
  pub get_word : (c : CardState) (address : ℕ) (e : Refusal) → (get_word_cycle c address).1 ≡ Err e → (get_word_cycle c address).0 ≡ c

-- the law that a refused service does nothing to the adapter and the BIOS data
abbrev pub RefusedServicesDoNothing : Type 0
RefusedServicesDoNothing = (fonts : FontSet) (d : BiosData) (r : Regs) (block : List ℕ) (c : CardState) (e : Refusal)
    → (run card_meaning (service fonts d r block) c).1.0 ≡ Err e → run card_meaning (service fonts d r block) c ≡ (c, (Err e, d))

-- a machine whose adapter is as before is as before
abbrev with_card : Machine → CardState → Machine
with_card m c = record m { card = c }

-- a write whose answer is a refusal
refused_write : (m : Machine) (next : CardState) (result : Result Unit Refusal) (refusal : Refusal) → ((e : Refusal) → result ≡ Err e → next ≡ m.card)
    → Short (of_write result) ≡ Short (Refused refusal) → with_card m next ≡ m
refused_write m next (Ok u) refusal law is = absurd (cc)
refused_write m next (Err e) refusal law is = ap (with_card m) (law e refl)

-- a read of a byte whose answer is a refusal
refused_byte : (m : Machine) (next : CardState) (result : Result ℕ Refusal) (refusal : Refusal) → ((e : Refusal) → result ≡ Err e → next ≡ m.card)
    → Short (of_byte result) ≡ Short (Refused refusal) → with_card m next ≡ m
refused_byte m next (Ok v) refusal law is = absurd (cc)
refused_byte m next (Err e) refusal law is = ap (with_card m) (law e refl)

-- a read of a word whose answer is a refusal
refused_word : (m : Machine) (next : CardState) (result : Result ℕ Refusal) (refusal : Refusal) → ((e : Refusal) → result ≡ Err e → next ≡ m.card)
    → Short (of_word result) ≡ Short (Refused refusal) → with_card m next ≡ m
refused_word m next (Ok v) refusal law is = absurd (cc)
refused_word m next (Err e) refusal law is = ap (with_card m) (law e refl)

-- an advance, by whether its dots are few
abbrev advanced : Bool → CardState → CardState → WriteResult
advanced few card next = if few then (next, Ok tt) else (card, Err TooFar)

-- an advance that is refused
refused_advance : (few : Bool) (card next : CardState) (e : Refusal) → (advanced few card next).1 ≡ Err e → (advanced few card next).0 ≡ card
refused_advance true card next e is = absurd (cc)
refused_advance false card next e is = refl

-- a service whose answer is a refusal
refused_call : (m : Machine) (after : CardState × CallOutcome) (refusal : Refusal) → ((e : Refusal) → after.1.0 ≡ Err e → after ≡ (m.card, (Err e, m.bda)))
    → of_service after.1.0 ≡ Short (Refused refusal) → record m { card = after.0; bda = after.1.1 } ≡ m
refused_call m (card, (Ok reply, bda)) refusal law is = absurd (cc)
refused_call m (card, (Err e, bda)) refusal law is = ap (λ (a : CardState × CallOutcome). record m { card = a.0; bda = a.1.1 }) (law e refl)

-- a frame has no such answer
answered_frame : (s : Option Shape) (bytes : List ℕ) (answer : Answer) → of_shape s bytes ≡ Short answer → ⊥
answered_frame None bytes answer is = cc
answered_frame (Some s) bytes answer is = cc

-- a step whose answer is a refusal
pub refused_step : RefusedCyclesChangeNothing → RefusedServicesDoNothing → (m : Machine) (step : Step) (refusal : Refusal) →
    answer_to m step ≡ Short (Refused refusal) → after_step m step ≡ m
unfolding answer_to after_step after_int10
refused_step law services m (Out port v) refusal is = refused_write m (out_cycle m.card port v).0 (out_cycle m.card port v).1 refusal (law.out m.card port v) is
refused_step law services m (OutWord port v) refusal is = refused_write m (out_word_cycle m.card port v).0 (out_word_cycle m.card port v).1 refusal
    (law.out_word m.card port v) is
refused_step law services m (In port) refusal is = refused_byte m (inp_cycle m.card port).0 (inp_cycle m.card port).1 refusal (law.inp m.card port) is
refused_step law services m (InWord port) refusal is = refused_word m (inp_word_cycle m.card port).0 (inp_word_cycle m.card port).1 refusal
    (law.inp_word m.card port) is
refused_step law services m (Put address v) refusal is = refused_write m (put_cycle m.card address v).0 (put_cycle m.card address v).1 refusal
    (law.put m.card address v) is
refused_step law services m (PutWord address v) refusal is = refused_write m (put_word_cycle m.card address v).0 (put_word_cycle m.card address v).1 refusal
    (law.put_word m.card address v) is
refused_step law services m (Get address) refusal is = refused_byte m (get_cycle m.card address).0 (get_cycle m.card address).1 refusal (law.get m.card address)
    is
refused_step law services m (GetWord address) refusal is = refused_word m (get_word_cycle m.card address).0 (get_word_cycle m.card address).1 refusal
    (law.get_word m.card address) is
refused_step law services m (Int ax bx cx dx block) refusal is =
    let asked : Regs = record { ax = ax; bx = bx; cx = cx; dx = dx } in
    refused_call m (run card_meaning (service m.fonts m.bda asked block) m.card) refusal (services m.fonts m.bda asked block m.card) is
refused_step law services m (Advance count) refusal is = refused_write m (advance_cycle m.card count).0 (advance_cycle m.card count).1 refusal
    (refused_advance (nat_le count most_dots_of_an_advance) m.card (dots count m.card)) is
refused_step law services m Frame refusal is = absurd (answered_frame (picture_shape (frame m.card).drawn) (bytes_of_dots (frame m.card).drawn) (Refused refusal) is)
refused_step law services m (Show what) refusal is = refl
