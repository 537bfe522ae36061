-- Transfers: a step of each loop, and that reads change no byte that is read.
use Rattle.std.proofs.Common.{◌≡◌, ℕ, zero, suc, ◌+◌, ◌-◌, ◌<◌, ◌≤◌, refl, sym, ap, ◌∙◌, arith, Bool, true, false, List, length, ⊎_elim}
use Rattle.std.specs.Prelude.{slice_index, slice_set, if◌then◌else◌, ◌%◌, ◌==◌}
use Rattle.std.proofs.lemmas.Bool.{cases_order}
use Rattle.std.proofs.lemmas.List.{get_or-set_other, get_or-set_same}
use Rattle.vga_bits.specs.Four.{Four}
use Rattle.vga_host.specs.Host.{HostState}
use Rattle.vga_host.specs.Memory.Address.{is_decoded}
use Rattle.vga_host.specs.Memory.Read.{read_bit, read_byte, after_get}
use Rattle.vga_host.specs.Memory.Runs.{byte_read_or_ff, after_gets as host_gets}
use Rattle.vga_card.specs.Card.{CardState}
use Rattle.vga_card.specs.Adapter.{CardStateWithoutBeamAndDots, without_beam_and_dots}
use Rattle.vga_card.specs.Cycles.{card_after_read, if_decoded, get_cycle}
use Rattle.vga_card.specs.Bus.{BusMeaning, AtAddress, byte_or_ff, even_or_odd_byte, after_puts, after_move, card_meaning}
use Rattle.vga_card.proofs.CycleLemmas.{with_host}
use Rattle.vga_card.specs.Transfers.{after_gets, after_puts_last_first, after_gets_last_first, after_moves_last_first, byte_at_or_ff}

-- ---- steps of loops

pub next_put_down : {S : Type 0} (m : BusMeaning S) (first : ℕ) (f : ℕ → ℕ) (i n : ℕ) (s t r : S) → i < n →
    t ≡ (m.write s (AtAddress (first + (n - 1 - i))) (f (n - 1 - i))).0 →
    after_puts_last_first m first f (n - i) s ≡ r → after_puts_last_first m first f (n - (i + 1)) t ≡ r
next_put_down m first f i n s t r less now before =
    let k : n - i ≡ suc (n - 1 - i) = omega arith in
    let z : n - (i + 1) ≡ n - 1 - i = omega arith in
    ap (λ j. after_puts_last_first m first f j t) z ∙ ap (after_puts_last_first m first f (n - 1 - i)) now ∙ sym (ap (λ j. after_puts_last_first m first f j s) k) ∙ before

pub next_get_down : {S : Type 0} (m : BusMeaning S) (first i n : ℕ) (s t r : S) → i < n → t ≡ (m.read s (AtAddress (first + (n - 1 - i)))).0 →
    after_gets_last_first m first (n - i) s ≡ r → after_gets_last_first m first (n - (i + 1)) t ≡ r
next_get_down m first i n s t r less now before =
    let k : n - i ≡ suc (n - 1 - i) = omega arith in
    let z : n - (i + 1) ≡ n - 1 - i = omega arith in
    ap (λ j. after_gets_last_first m first j t) z ∙ ap (after_gets_last_first m first (n - 1 - i)) now ∙ sym (ap (λ j. after_gets_last_first m first j s) k) ∙ before

pub next_move_down : {S : Type 0} (m : BusMeaning S) (from to i n : ℕ) (s t r : S) → i < n → t ≡ after_move m (from + (n - 1 - i)) (to + (n - 1 - i)) s →
    after_moves_last_first m from to (n - i) s ≡ r → after_moves_last_first m from to (n - (i + 1)) t ≡ r
next_move_down m from to i n s t r less now before =
    let k : n - i ≡ suc (n - 1 - i) = omega arith in
    let z : n - (i + 1) ≡ n - 1 - i = omega arith in
    ap (λ j. after_moves_last_first m from to j t) z ∙ ap (after_moves_last_first m from to (n - 1 - i)) now ∙ sym (ap (λ j. after_moves_last_first m from to j s) k) ∙ before

-- a byte in turn with itself is that byte
same_turn : (v : ℕ) (even : Bool) → (if even then v else v) ≡ v
same_turn v true = refl
same_turn v false = refl

pub one_in_turn : (first v n i : ℕ) (c : CardState) → after_puts card_meaning first (even_or_odd_byte v v) n i c ≡ after_puts card_meaning first (λ k. v) n i c
one_in_turn first v n i c = ap (λ (f : ℕ → ℕ). after_puts card_meaning first f n i c) (λ j k. same_turn v (k % 2 == 0) j)

-- ---- reads

-- the adapter with other latches
abbrev pub with_latches : CardState → Four ℕ → CardState
with_latches c l = record c { host = record c.host { latches = l } }

-- d is c but for the latches
abbrev pub IsReadOnly : CardState → CardState → Type 0
IsReadOnly c d = with_latches c d.host.latches ≡ d

got_where : (decoded : Bool) (c : CardState) (address v : ℕ) →
    IsReadOnly c (card_after_read c (if_decoded decoded (record (without_beam_and_dots c) { host = after_get c.host address }, v))).0
got_where true c address v = refl
got_where false c address v = refl

-- a read changes the latches alone
pub read_only : (c : CardState) (address : ℕ) → IsReadOnly c (get_cycle c address).0
read_only c address = got_where (is_decoded c.host c.misc address) c address (read_byte c.host address)

pub read_on : (c d e : CardState) → IsReadOnly c d → IsReadOnly d e → IsReadOnly c e
read_on c d e first second = ap (λ (x : CardState). with_latches x e.host.latches) first ∙ second

-- the byte of a read, where the address is decoded and where it is not
byte_read : (decoded : Bool) (c : CardState) (new : CardStateWithoutBeamAndDots) (v : ℕ) → byte_or_ff (card_after_read c (if_decoded decoded (new, v))).1 ≡ (if decoded then v else 0xFF)
byte_read true c new v = refl
byte_read false c new v = refl

byte_is : (c : CardState) (address : ℕ) → byte_at_or_ff c address ≡ byte_read_or_ff c.host c.misc address
byte_is c address = byte_read (is_decoded c.host c.misc address) c (record (without_beam_and_dots c) { host = after_get c.host address }) (read_byte c.host address)

latches_tell_nothing : (c : CardState) (l : Four ℕ) (address : ℕ) → byte_read_or_ff (with_latches c l).host c.misc address ≡ byte_read_or_ff c.host c.misc address
unfolding read_bit
latches_tell_nothing c l address = refl

-- so it changes no byte that is read
pub byte_over : (c d : CardState) (address : ℕ) → IsReadOnly c d → byte_at_or_ff d address ≡ byte_at_or_ff c address
byte_over c d address same =
    sym (ap (λ (x : CardState). byte_at_or_ff x address) same) ∙ byte_is (with_latches c d.host.latches) address
    ∙ latches_tell_nothing c d.host.latches address ∙ sym (byte_is c address)

pub reads_change_no_byte : (c : CardState) (address other : ℕ) → byte_at_or_ff (get_cycle c address).0 other ≡ byte_at_or_ff c other
reads_change_no_byte c address other = byte_over c (get_cycle c address).0 other (read_only c address)

-- ---- a run of reads of the adapter is one of its host path

get_at : (decoded : Bool) (c : CardState) (new : HostState) (v : ℕ) (f : ℕ → HostState → HostState) →
    with_host c (f c.misc (if decoded then new else c.host))
    ≡ (let r : CardState = (card_after_read c (if_decoded decoded (record (without_beam_and_dots c) { host = new }, v))).0 in with_host r (f r.misc r.host))
get_at true c new v f = refl
get_at false c new v f = refl

pub card_gets : (first n i : ℕ) (c : CardState) → with_host c (host_gets c.misc first n i c.host) ≡ after_gets card_meaning first n i c
card_gets first zero i c = refl
card_gets first (suc n) i c =
    get_at (is_decoded c.host c.misc (first + i)) c (after_get c.host (first + i)) (read_byte c.host (first + i))
    (λ misc h. host_gets misc first n (i + 1) h)
    ∙ card_gets first n (i + 1) (get_cycle c (first + i)).0

-- ---- bytes that are read from the last to the first

pub byte_set_down : (bytes : List ℕ) (n i k v : ℕ) (g : ℕ → ℕ) → i < n → length bytes ≡ n → n - (i + 1) ≤ k → k < n
    → ((j : ℕ) → n - i ≤ j → j < n → slice_index bytes j ≡ g j) → v ≡ g (n - 1 - i) → slice_index (slice_set bytes (n - 1 - i) v) k ≡ g k
byte_set_down bytes n i k v g less size from below read is = ⊎_elim
    (λ (here : k ≡ n - 1 - i). ap (slice_index (slice_set bytes (n - 1 - i) v)) here ∙ get_or-set_same bytes (n - 1 - i) v 0 (omega (arith, size, less)) ∙ is
    ∙ ap g (sym here))
    (⊎_elim
    (λ (before : k < n - 1 - i). absurd (omega (arith, from, before, less)))
    (λ (past : n - 1 - i < k). get_or-set_other bytes (n - 1 - i) k v 0 (omega (arith, past)) ∙ read k (omega (arith, past, less)) below))
    (cases_order k (n - 1 - i))
