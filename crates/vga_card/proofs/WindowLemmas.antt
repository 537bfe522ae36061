-- Cycles past the windows of the display memory do nothing.
use Rattle.std.proofs.Common.{◌≡◌, ◌∙◌, ◌+◌, ◌<◌, ◌≤◌, ℕ, zero, suc, Bool, false, refl, sym, ap, arith, ⊎_elim}
use Rattle.std.specs.Prelude.{◌==◌, nat_lt, if◌then◌else◌}
use Rattle.std.proofs.lemmas.Bool.{cases_lt, le-ltb}
use Rattle.vga_host.specs.Host.{HostState}
use Rattle.vga_host.specs.Graphics.{memory_map}
use Rattle.vga_host.specs.Memory.Address.{is_decoded}
use Rattle.vga_card.specs.Card.{CardState}
use Rattle.vga_host.specs.Memory.Read.{after_get, read_byte}
use Rattle.vga_host.specs.Memory.Write.{after_put}
use Rattle.vga_card.specs.Adapter.{CardStateWithoutBeamAndDots, without_beam_and_dots}
use Rattle.vga_card.specs.Cycles.{card_after_read, card_after_write, if_decoded, get_cycle, put_cycle}
use Rattle.vga_card.specs.Bus.{after_move, after_moves, after_puts, byte_or_ff, card_meaning}
use Rattle.vga_card.specs.Transfers.{after_moves_last_first, after_puts_last_first}

-- no window reaches C0000
window_end : (map address : ℕ) → map < 4 → 0xC0000 ≤ address
    → nat_lt address ((if nat_lt map 2 then 0xA0000 else if map == 2 then 0xB0000 else 0xB8000)
    + (if map == 0 then 0x20000 else if map == 1 then 0x10000 else 0x8000)) ≡ false
window_end zero address few past = le-ltb address 0xC0000 past
window_end (suc zero) address few past = le-ltb address 0xB0000 (omega (arith, past))
window_end (suc (suc zero)) address few past = le-ltb address 0xB8000 (omega (arith, past))
window_end (suc (suc (suc zero))) address few past = le-ltb address 0xC0000 past
window_end (suc (suc (suc (suc map)))) address few past = absurd (omega (arith, few))

not_decoded : (h : HostState) (misc address : ℕ) → 0xC0000 ≤ address → is_decoded h misc address ≡ false
not_decoded h misc address past = grind (arith, window_end (memory_map h) address (omega arith) past)

put_refused : (c : CardState) (decoded : Bool) (new : CardStateWithoutBeamAndDots) → decoded ≡ false → (card_after_write c (if_decoded decoded new)).0 ≡ c
put_refused c decoded new e = ap (λ (b : Bool). (card_after_write c (if_decoded b new)).0) e

got_refused : (c : CardState) (decoded : Bool) (new : CardStateWithoutBeamAndDots) (v : ℕ) → decoded ≡ false → (card_after_read c (if_decoded decoded (new, v))).0 ≡ c
got_refused c decoded new v e = ap (λ (b : Bool). (card_after_read c (if_decoded b (new, v))).0) e

put_past : (c : CardState) (address v : ℕ) → 0xC0000 ≤ address → (put_cycle c address v).0 ≡ c
put_past c address v past = put_refused c (is_decoded c.host c.misc address) (record (without_beam_and_dots c) { host = after_put c.host address v }) (not_decoded c.host c.misc address past)

get_past : (c : CardState) (address : ℕ) → 0xC0000 ≤ address → (get_cycle c address).0 ≡ c
get_past c address past =
    got_refused c (is_decoded c.host c.misc address) (record (without_beam_and_dots c) { host = after_get c.host address }) (read_byte c.host address) (not_decoded c.host c.misc address past)

move_past : (c : CardState) (from to : ℕ) → 0xC0000 ≤ from → 0xC0000 ≤ to → after_move card_meaning from to c ≡ c
move_past c from to past_from past_to =
    put_past (get_cycle c from).0 to (byte_or_ff (get_cycle c from).1) past_to ∙ get_past c from past_from

-- ---- writes, from the first address up

none_put : (first n i : ℕ) (f : ℕ → ℕ) (c : CardState) → 0xC0000 ≤ first + i → after_puts card_meaning first f n i c ≡ c
none_put first zero i f c past = refl
none_put first (suc n) i f c past =
    ap (after_puts card_meaning first f n (i + 1)) (put_past c (first + i) (f i) past) ∙ none_put first n (i + 1) f c (omega (arith, past))

-- the first k of n writes are all that do something
pub puts_end : (first k n i : ℕ) (f : ℕ → ℕ) (c : CardState) → k ≤ n → (k < n → 0xC0000 ≤ first + (i + k))
    → after_puts card_meaning first f k i c ≡ after_puts card_meaning first f n i c
puts_end first zero zero i f c few past = refl
puts_end first zero (suc n) i f c few past = sym (none_put first (suc n) i f c (omega (arith, past (omega arith))))
puts_end first (suc k) zero i f c few past = absurd (omega (arith, few))
puts_end first (suc k) (suc n) i f c few past =
    puts_end first k n (i + 1) f (put_cycle c (first + i) (f i)).0 (omega (arith, few)) (λ less. omega (arith, past (omega (arith, less))))

-- ---- writes, from the last address down

pub puts_down_end : (first k n : ℕ) (f : ℕ → ℕ) (c : CardState) → k ≤ n → (k < n → 0xC0000 ≤ first + k)
    → after_puts_last_first card_meaning first f k c ≡ after_puts_last_first card_meaning first f n c
puts_down_end first k zero f c few past = let same : k ≡ 0 = omega (arith, few) in ap (λ (m : ℕ). after_puts_last_first card_meaning first f m c) same
puts_down_end first k (suc n) f c few past = ⊎_elim
    (λ (less : k < suc n). puts_down_end first k n f c (omega (arith, less)) (λ smaller. past less)
    ∙ sym (ap (after_puts_last_first card_meaning first f n) (put_past c (first + n) (f n) (omega (arith, past less, less)))))
    (λ (all : suc n ≤ k). let same : k ≡ suc n = omega (arith, few, all) in ap (λ (m : ℕ). after_puts_last_first card_meaning first f m c) same)
    (cases_lt k (suc n))

-- ---- moves, from the first address up

none_moved : (from to n i : ℕ) (c : CardState) → 0xC0000 ≤ from + i → 0xC0000 ≤ to + i → after_moves card_meaning from to n i c ≡ c
none_moved from to zero i c past_from past_to = refl
none_moved from to (suc n) i c past_from past_to =
    ap (after_moves card_meaning from to n (i + 1)) (move_past c (from + i) (to + i) past_from past_to)
    ∙ none_moved from to n (i + 1) c (omega (arith, past_from)) (omega (arith, past_to))

-- the first k of n moves are all that do something
pub moves_end : (from to k n i : ℕ) (c : CardState) → k ≤ n → (k < n → 0xC0000 ≤ from + (i + k)) → (k < n → 0xC0000 ≤ to + (i + k))
    → after_moves card_meaning from to k i c ≡ after_moves card_meaning from to n i c
moves_end from to zero zero i c few past_from past_to = refl
moves_end from to zero (suc n) i c few past_from past_to =
    sym (none_moved from to (suc n) i c (omega (arith, past_from (omega arith))) (omega (arith, past_to (omega arith))))
moves_end from to (suc k) zero i c few past_from past_to = absurd (omega (arith, few))
moves_end from to (suc k) (suc n) i c few past_from past_to =
    moves_end from to k n (i + 1) (after_move card_meaning (from + i) (to + i) c) (omega (arith, few))
    (λ less. omega (arith, past_from (omega (arith, less)))) (λ less. omega (arith, past_to (omega (arith, less))))

-- ---- moves, from the last address down

pub moves_down_end : (from to k n : ℕ) (c : CardState) → k ≤ n → (k < n → 0xC0000 ≤ from + k) → (k < n → 0xC0000 ≤ to + k)
    → after_moves_last_first card_meaning from to k c ≡ after_moves_last_first card_meaning from to n c
moves_down_end from to k zero c few past_from past_to = let same : k ≡ 0 = omega (arith, few) in ap (λ (m : ℕ). after_moves_last_first card_meaning from to m c) same
moves_down_end from to k (suc n) c few past_from past_to = ⊎_elim
    (λ (less : k < suc n). moves_down_end from to k n c (omega (arith, less)) (λ smaller. past_from less) (λ smaller. past_to less)
    ∙ sym (ap (after_moves_last_first card_meaning from to n) (move_past c (from + n) (to + n) (omega (arith, past_from less, less)) (omega (arith, past_to less, less)))))
    (λ (all : suc n ≤ k). let same : k ≡ suc n = omega (arith, few, all) in ap (λ (m : ℕ). after_moves_last_first card_meaning from to m c) same)
    (cases_lt k (suc n))
