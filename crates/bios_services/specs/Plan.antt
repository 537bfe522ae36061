-- The plan of a service: its cycles in order. A later cycle may depend on the bytes that earlier
-- ones read.
use Rattle.std.specs.Prelude.{ℕ, zero, suc, ◌+◌, List, [], ◌∷◌, Result}
use Rattle.vga_bits.specs.declared.refusal.Refusal.{Refusal}
use Rattle.vga_card.specs.Bus.{BusMeaning, Place, AtPort, AtAddress, byte_or_ff as moved_byte}

-- a plan is done and gives an answer, or asks for one more cycle
pub data Plan (A : Type 0) : Type 0 where
  Done : A → Plan A
  Write : Place → ℕ → Plan A → Plan A
  Read : Place → (ℕ → Plan A) → Plan A

-- one plan, and then another that gets its answer
infixl 10 ◌>>=◌
abbrev pub ◌>>=◌ : {A B : Type 0} → Plan A → (A → Plan B) → Plan B
(Done a) >>= f = f a
(Write place v rest) >>= f = Write place v (rest >>= f)
(Read place rest) >>= f = Read place (λ b. rest b >>= f)

-- one plan, and then another
infixl 10 ◌>>◌
abbrev pub ◌>>◌ : {A B : Type 0} → Plan A → Plan B → Plan B
p >> q = p >>= λ _. q

-- the byte that a read gives; FF if it is refused
abbrev pub read_byte_or_ff : Result ℕ Refusal → ℕ
read_byte_or_ff r = moved_byte r

-- the state in which a plan leaves a bus, and its answer; what a refused write does is the bus's
abbrev pub run : {S A : Type 0} → BusMeaning S → Plan A → S → S × A
run m (Done a) s = (s, a)
run m (Write place v rest) s = run m rest (m.write s place v).0
run m (Read place rest) s = let r = m.read s place in run m (rest (read_byte_or_ff r.1)) r.0

-- a write to a port
abbrev pub out : ℕ → ℕ → Plan (Unit {0})
out port v = Write (AtPort port) v (Done tt)

-- a write to an address
abbrev pub put : ℕ → ℕ → Plan (Unit {0})
put address v = Write (AtAddress address) v (Done tt)

-- a read from a port
abbrev pub inp : ℕ → Plan ℕ
inp port = Read (AtPort port) (λ b. Done b)

-- a read from an address
abbrev pub get : ℕ → Plan ℕ
get address = Read (AtAddress address) (λ b. Done b)

-- a byte is read at one address and written at another
abbrev pub move : ℕ → ℕ → Plan (Unit {0})
move from to = Read (AtAddress from) (λ v. put to v)

-- a plan for each of n numbers from i on, in ascending order
abbrev pub each : (ℕ → Plan (Unit {0})) → ℕ → ℕ → Plan (Unit {0})
each f zero i = Done tt
each f (suc n) i = f i >>= λ _. each f n (i + 1)

-- a plan for each of n numbers from i on, the last number first
abbrev pub each_down : (ℕ → Plan (Unit {0})) → ℕ → ℕ → Plan (Unit {0})
each_down f zero i = Done tt
each_down f (suc n) i = f (i + n) >>= λ _. each_down f n i

-- a plan for each of n numbers from i on; each gets the answer of the one before
abbrev pub fold : (ℕ → ℕ → Plan ℕ) → ℕ → ℕ → ℕ → Plan ℕ
fold f zero i x = Done x
fold f (suc n) i x = f i x >>= λ y. fold f n (i + 1) y

-- the list of what plans answer, one for each of n numbers from i on
abbrev pub gather : (ℕ → Plan ℕ) → ℕ → ℕ → Plan (List ℕ)
gather f zero i = Done []
gather f (suc n) i = f i >>= λ x. gather f n (i + 1) >>= λ xs. Done (x ∷ xs)
