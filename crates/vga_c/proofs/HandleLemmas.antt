-- Dots that a card owes: they are added up, and are the dots of one advance.
use Rattle.std.proofs.Common.{◌≡◌, ◌+◌, ◌≤◌, ◌∙◌, ℕ, Bool, true, false, nat_le, if◌then◌else◌, Ok, Err, refl, ap, sym, arith}
use Rattle.std.proofs.lemmas.Bool.Decides.{nat_tests}
use Rattle.vga_bits.specs.declared.refusal.Refusal.TheVariants.{TooFar}
use Rattle.vga_card.specs.Card.{CardState}
use Rattle.vga_card.specs.Cycles.{WriteResult}
use Rattle.vga_card.specs.Dots.{dots, most_dots_of_an_advance}
use Rattle.vga_script.specs.declared.step.Step.TheVariants.{Advance}
use Rattle.vga_run.specs.declared.machine.Machine.{Machine}
use Rattle.vga_run.specs.Answer.{of_write, Short}
use Rattle.vga_run.specs.Step.{advance_cycle, after_step, answer_to}
use Rattle.vga_c.specs.Handle.{HandleState, machine_after_owed_dots}
use Rattle.vga_c.specs.Status.{status_of}

-- this many dots are few enough
few_are : (n : ℕ) → n ≤ most_dots_of_an_advance → nat_le n most_dots_of_an_advance ≡ true
few_are n few = grind (arith, nat_tests)

-- few enough dots are taken, and not refused
cycle_is : (c : CardState) (n : ℕ) → n ≤ most_dots_of_an_advance → advance_cycle c n ≡ (dots n c, Ok tt)
cycle_is c n few = chosen (nat_le n most_dots_of_an_advance) (dots n c, Ok tt) (c, Err TooFar) (few_are n few)
  where
    chosen : (t : Bool) (x y : WriteResult) → t ≡ true → (if t then x else y) ≡ x
    chosen true x y e = refl
    chosen false x y e = absurd (cc)

few_dots : (c : CardState) (n : ℕ) → n ≤ most_dots_of_an_advance → (advance_cycle c n).0 ≡ dots n c
few_dots c n few = ap (λ (r : WriteResult). r.0) (cycle_is c n few)

-- no dots leave a machine
pub none_owed : ((c : CardState) → dots 0 c ≡ c) → (m : Machine) → after_step m (Advance 0) ≡ m
unfolding after_step
none_owed none m = ap (λ (c : CardState). record m { card = c }) (few_dots m.card 0 (omega arith) ∙ none m.card)

-- dots that are added to those that are owed come after these
pub owed_both : ((a b : ℕ) (c : CardState) → dots (a + b) c ≡ dots b (dots a c)) → (m : Machine) (a b : ℕ) → a + b ≤ most_dots_of_an_advance →
    after_step m (Advance (a + b)) ≡ after_step (after_step m (Advance a)) (Advance b)
unfolding after_step
owed_both split m a b few =
    let first = few_dots m.card a (omega (arith, few)) in
    let later = few_dots (advance_cycle m.card a).0 b (omega (arith, few)) in
    ap (λ (c : CardState). record m { card = c })
    (few_dots m.card (a + b) few ∙ split a b m.card ∙ sym (later ∙ ap (dots b) first))

-- few enough dots are not refused
pub advance_is_done : (m : Machine) (n : ℕ) → n ≤ most_dots_of_an_advance → 0 ≡ status_of (answer_to m (Advance n))
unfolding answer_to
advance_is_done m n few = sym (ap (λ (r : WriteResult). status_of (Short (of_write r.1))) (cycle_is m.card n few))

-- a card that owes no dots has the machine that it keeps
pub nothing_owed : ((c : CardState) → dots 0 c ≡ c) → (h : HandleState) → h.owed ≡ 0 → h.kept.machine ≡ machine_after_owed_dots h
unfolding machine_after_owed_dots
nothing_owed none h owes = sym (none_owed none h.kept.machine) ∙ ap (λ (n : ℕ). after_step h.kept.machine (Advance n)) (sym owes)
