-- What plans leave when they run one after another, on any bus.
use Rattle.std.proofs.Common.{◌≡◌, refl, ap}
use Rattle.vga_card.specs.Bus.{BusMeaning, card_meaning}
use Rattle.vga_card.specs.Card.{CardState}
use Rattle.bios_services.specs.Plan.{Plan, Done, Write, Read, ◌>>=◌, ◌>>◌, run, read_byte_or_ff}

-- a plan and then another: the second runs from the state that the first leaves
pub run_bind : {S A B : Type 0} (m : BusMeaning S) (p : Plan A) (f : A → Plan B) (s : S) → run m (p >>= f) s ≡ (let r = run m p s in run m (f r.1) r.0)
run_bind m (Done a) f s = refl
run_bind m (Write place v rest) f s = run_bind m rest f (m.write s place v).0
run_bind m (Read place rest) f s = let r = m.read s place in run_bind m (rest (read_byte_or_ff r.1)) f r.0

-- the state after one plan and then another
pub then_runs : {A B : Type 0} (p : Plan A) (q : Plan B) (c : CardState) → (run card_meaning (p >> q) c).0 ≡ (run card_meaning q (run card_meaning p c).0).0
then_runs p q c = ap (λ r. r.0) (run_bind card_meaning p (λ _. q) c)

-- the answer of one plan and then another
pub then_answers : {A B : Type 0} (p : Plan A) (q : Plan B) (c : CardState) → (run card_meaning (p >> q) c).1 ≡ (run card_meaning q (run card_meaning p c).0).1
then_answers p q c = ap (λ r. r.1) (run_bind card_meaning p (λ _. q) c)
