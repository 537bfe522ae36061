-- Writes to a run of addresses, and reads from one, cycle by cycle. They go up from the first
-- address, or down from the last.
-- From the IBM PS/2 Hardware Interface Technical Reference, Video Subsystems: no cycle of memory
-- changes a register.
use Rattle.std.specs.Prelude.{◌≡◌, ℕ, zero, suc, ◌+◌, ◌<◌, List, length, slice_index}
use Rattle.vga_host.specs.Memory.Address.{decoded_among}
use Rattle.vga_card.specs.Card.{CardState}
use Rattle.vga_card.specs.Bus.{BusMeaning, AtAddress, byte_or_ff, after_move, card_meaning}

-- n reads from number i on, refused ones among them: read i is of the address i after the first
abbrev pub after_gets : {S : Type 0} → BusMeaning S → ℕ → ℕ → ℕ → S → S
after_gets m first zero i s = s
after_gets m first (suc n) i s = after_gets m first n (i + 1) (m.read s (AtAddress (first + i))).0

-- n writes, the last first: write i is of byte f i, to the address i after the first
abbrev pub after_puts_last_first : {S : Type 0} → BusMeaning S → ℕ → (ℕ → ℕ) → ℕ → S → S
after_puts_last_first m first f zero s = s
after_puts_last_first m first f (suc n) s = after_puts_last_first m first f n
    (m.write s (AtAddress (first + n)) (f n)).0

-- n reads, the last first
abbrev pub after_gets_last_first : {S : Type 0} → BusMeaning S → ℕ → ℕ → S → S
after_gets_last_first m first zero s = s
after_gets_last_first m first (suc n) s = after_gets_last_first m first n
    (m.read s (AtAddress (first + n))).0

-- n moves, the last first
abbrev pub after_moves_last_first : {S : Type 0} → BusMeaning S → ℕ → ℕ → ℕ → S → S
after_moves_last_first m from to zero s = s
after_moves_last_first m from to (suc n) s = after_moves_last_first m from to n
    (after_move m (from + n) (to + n) s)

-- how many of n addresses from the first on are decoded
abbrev pub decoded_count : CardState → ℕ → ℕ → ℕ
decoded_count c first n = decoded_among c.host c.misc first n

-- the byte that a read of an address returns, or FF if the read is refused
abbrev pub byte_at_or_ff : CardState → ℕ → ℕ
byte_at_or_ff c address = byte_or_ff (card_meaning.read c (AtAddress address)).1

-- Byte i is what a read of the address i after the first returns. No read changes what another
-- returns, as `reads_change_no_byte` says.
pub record AreBytesRead (c : CardState) (first : ℕ) (old new : List ℕ) : Type 0 where
  pub bytes : (i : ℕ) → i < length old → slice_index new i ≡ byte_at_or_ff c (first + i)
  pub size : length new ≡ length old
