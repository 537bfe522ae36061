-- A bus: what cycles of a byte do to its state. The adapter is one.
use Rattle.std.specs.Prelude.{ℕ, zero, suc, ◌+◌, Result, Ok, Err}
use Rattle.vga_bits.specs.declared.refusal.Refusal.{Refusal}
pub use Rattle.vga_host.specs.Memory.Runs.{even_or_odd_byte}
use Rattle.vga_card.specs.Card.{CardState}
use Rattle.vga_card.specs.Cycles.{WriteResult, ReadResult, out_cycle, inp_cycle, put_cycle}
use Rattle.vga_card.specs.Cycles.{get_cycle}

-- where a cycle goes: to a port, or to an address of memory
pub data Place : Type 0 where
  AtPort : ℕ → Place
  AtAddress : ℕ → Place

-- the state that a write of a byte leaves, and its answer; and the same for a read
pub record BusMeaning (S : Type 0) : Type 0 where
  pub write : S → Place → ℕ → S × Result (Unit {0}) Refusal
  pub read : S → Place → S × Result ℕ Refusal

-- the byte of a read; a refused one gives FF
abbrev pub byte_or_ff : Result ℕ Refusal → ℕ
byte_or_ff (Ok b) = b
byte_or_ff (Err refusal) = 0xFF

-- n writes from number i on, refused ones among them: write i is of byte f i, to the address i
-- after the first
abbrev pub after_puts : {S : Type 0} → BusMeaning S → ℕ → (ℕ → ℕ) → ℕ → ℕ → S → S
after_puts m first f zero i s = s
after_puts m first f (suc n) i s = after_puts m first f n (i + 1)
    (m.write s (AtAddress (first + i)) (f i)).0

-- a byte is read at one address, and written at another
abbrev pub after_move : {S : Type 0} → BusMeaning S → ℕ → ℕ → S → S
after_move m from to s = let r = m.read s (AtAddress from) in
    (m.write r.0 (AtAddress to) (byte_or_ff r.1)).0

-- n such moves from number i on: move i is from the address i after the first, to that i after the
-- other
abbrev pub after_moves : {S : Type 0} → BusMeaning S → ℕ → ℕ → ℕ → ℕ → S → S
after_moves m from to zero i s = s
after_moves m from to (suc n) i s = after_moves m from to n (i + 1)
    (after_move m (from + i) (to + i) s)

-- a write to the adapter
abbrev pub card_write : CardState → Place → ℕ → WriteResult
card_write c (AtPort port) v = out_cycle c port v
card_write c (AtAddress address) v = put_cycle c address v

-- a read of the adapter
abbrev pub card_read : CardState → Place → ReadResult
card_read c (AtPort port) = inp_cycle c port
card_read c (AtAddress address) = get_cycle c address

-- the adapter as a bus
abbrev pub card_meaning : BusMeaning CardState
card_meaning = record { write = card_write; read = card_read }
