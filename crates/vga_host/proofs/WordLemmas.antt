-- Moves that copy words of the planes: one of the latches; two where odd and even addresses are apart; four in a chain of four.
use Rattle.std.proofs.Common.{Bool, true, false, ◌≡◌, ◌≢◌, ℕ, zero, suc, ◌+◌, ◌-◌, ◌*◌, ◌/◌, ◌%◌, ◌<◌, ◌≤◌, ◌==◌, ◌&&◌, ◌||◌, refl, sym, ap, subst, ◌∙◌}
use Rattle.std.proofs.Common.{arith, List, if◌then◌else◌}
use Rattle.std.specs.Prelude.{slice_set, slice_index}
use Rattle.std.specs.Int.{bit_at}
use Rattle.std.proofs.lemmas.Bool.Decides.{nat_tests}
use Rattle.std.proofs.lemmas.List.{set-get_or, get_or-set_other}
use Rattle.vga_bits.proofs.BitLemmas.{byte_from_bits}
use Rattle.vga_bits.proofs.FourLemmas.{by_plane}
use Rattle.vga_bits.specs.Four.{Four, of_plane}
use Rattle.vga_planes.specs.Planes.{byte_at, bytes_at}
use Rattle.vga_host.specs.Host.{HostState}
use Rattle.vga_host.specs.Memory.Address.{is_decoded, window_offset, plane_offset, is_reached}
use Rattle.vga_host.specs.Graphics.{write_mode, is_chain_odd_even, is_odd_even_read, is_read_compare}
use Rattle.vga_host.specs.Sequencer.{is_in_map_mask, is_chain_four, is_odd_even_off}
use Rattle.vga_host.specs.Graphics.{read_map_pair, read_map_select}
use Rattle.vga_host.specs.Memory.Read.{compared_bit, read_bit, read_byte, picked_plane, after_get, loaded}
use Rattle.vga_host.specs.Memory.Write.{written_bit, written_byte, after_put, StoresByteUnchanged}
use Rattle.vga_host.specs.Memory.Runs.{after_put_if_decoded, after_move_if_decoded, after_moves}
use Rattle.vga_host.specs.Memory.Access.{IsAccess}
use Rattle.vga_host.specs.declared.host.memory.access.MemoryAccess.{MemoryAccess}
use Rattle.vga_host.specs.Memory.PlaneWords.{with_word_copied, AreMovesDecoded, MovesCopyLatches, MovesCopyByFours, MovesCopyByPairs, MovesCopyWords}
use Rattle.vga_host.proofs.StoresByteLemmas.{plain_bit, latched_bit}

-- ---- one move

-- a plane of two that agree wherever it is written
pub plane_is : (d e : Bool) (l : List ℕ) (b c v x : ℕ) → d ≡ e → b ≡ c → (e ≡ true → v ≡ x) →
    (if d then slice_set l b v else l) ≡ (if e then slice_set l c x else l)
plane_is d true l b c v x same at value = λ j. if same j then slice_set l (at j) (value refl j) else l
plane_is d false l b c v x same at value = λ j. if same j then slice_set l b v else l

-- a move between two decoded addresses moves a word, where the planes that it reaches get their own bytes
pub one_move : (h : HostState) (misc x y a b : ℕ) (reach : ℕ → Bool) → is_decoded h misc x ≡ true → is_decoded h misc y ≡ true
    → plane_offset h (window_offset h x) ≡ a → plane_offset h (window_offset h y) ≡ b
    → ((p : ℕ) → p < 4 → is_reached h (window_offset h y) p ≡ reach p)
    → ((p : ℕ) → p < 4 → reach p ≡ true → written_byte (after_get h x) (read_byte h x) p ≡ byte_at h.memory p a)
    → after_move_if_decoded h misc x y ≡ with_word_copied h reach a b
one_move h misc x y a b reach dx dy ea eb reached own =
    let g : HostState = after_get h x in
    let v = read_byte h x in
    let m = h.memory in
    let w = window_offset h y in
    let o = plane_offset h w in
    let p0 = plane_is (is_reached h w 0) (reach 0) m.plane0 o b (written_byte g v 0) (byte_at m 0 a) (reached 0 (omega arith)) eb (own 0 (omega arith)) in
    let p1 = plane_is (is_reached h w 1) (reach 1) m.plane1 o b (written_byte g v 1) (byte_at m 1 a) (reached 1 (omega arith)) eb (own 1 (omega arith)) in
    let p2 = plane_is (is_reached h w 2) (reach 2) m.plane2 o b (written_byte g v 2) (byte_at m 2 a) (reached 2 (omega arith)) eb (own 2 (omega arith)) in
    let p3 = plane_is (is_reached h w 3) (reach 3) m.plane3 o b (written_byte g v 3) (byte_at m 3 a) (reached 3 (omega arith)) eb (own 3 (omega arith)) in
    let after : Four ℕ → Four (List ℕ) → HostState = λ l n. record h { latches = l; memory = n } in
    (λ j. after_put_if_decoded (if dx j then after_get h x else h) misc y (if dx j then read_byte h x else 0xFF))
    ∙ (λ j. if dy j then after_put g y v else g)
    ∙ (λ j. after (bytes_at m (ea j)) (record { plane0 = p0 j; plane1 = p1 j; plane2 = p2 j; plane3 = p3 j }))

-- ---- in write mode 1

-- a move of the latches moves a word
pub latches_moved : (h : HostState) (misc x y a b : ℕ) → write_mode h ≡ 1 → is_decoded h misc x ≡ true → is_decoded h misc y ≡ true
    → plane_offset h (window_offset h x) ≡ a → plane_offset h (window_offset h y) ≡ b
    → ((p : ℕ) → p < 4 → is_reached h (window_offset h y) p ≡ is_in_map_mask h p)
    → ((p : ℕ) → p < 4 → byte_at h.memory p a < 256)
    → after_move_if_decoded h misc x y ≡ with_word_copied h (is_in_map_mask h) a b
latches_moved h misc x y a b mode dx dy ea eb reached bytes =
    let own : (p : ℕ) → p < 4 → is_in_map_mask h p ≡ true → written_byte (after_get h x) (read_byte h x) p ≡ byte_at h.memory p a =
    λ p l e.
    let same : of_plane (loaded h x) p ≡ byte_at h.memory p a =
    by_plane (λ q. of_plane (loaded h x) q ≡ byte_at h.memory q a) (ap (byte_at h.memory 0) ea) (ap (byte_at h.memory 1) ea) (ap (byte_at h.memory 2) ea)
    (ap (byte_at h.memory 3) ea) p l in
    sym (byte_from_bits (byte_at h.memory p a) (λ i. written_bit (after_get h x) (read_byte h x) p i) (bytes p l)
    (λ i li. ap (λ n. bit_at n i) (sym same) ∙ sym (latched_bit (after_get h x) (read_byte h x) p i mode))) in
    one_move h misc x y a b (is_in_map_mask h) dx dy ea eb reached own

-- ---- plain moves of a byte

-- a plain move of the byte of plane k moves it
pub plane_moved : (h : HostState) (misc x y a b k : ℕ) (reach : ℕ → Bool) → k < 4 → StoresByteUnchanged h → is_read_compare h ≡ false
    → is_decoded h misc x ≡ true → is_decoded h misc y ≡ true
    → plane_offset h (window_offset h x) ≡ a → plane_offset h (window_offset h y) ≡ b → picked_plane h (window_offset h x) ≡ k
    → ((p : ℕ) → p < 4 → is_reached h (window_offset h y) p ≡ reach p) → ((p : ℕ) → p < 4 → reach p ≡ true → p ≡ k)
    → byte_at h.memory k a < 256
    → after_move_if_decoded h misc x y ≡ with_word_copied h reach a b
unfolding read_bit
plane_moved h misc x y a b k reach lk plain compare dx dy ea eb picked reached only byte =
    let m = h.memory in
    let at : (q : ℕ) → q < 4 → of_plane (loaded h x) q ≡ byte_at m q a =
    by_plane (λ q. of_plane (loaded h x) q ≡ byte_at m q a) (ap (byte_at m 0) ea) (ap (byte_at m 1) ea) (ap (byte_at m 2) ea) (ap (byte_at m 3) ea) in
    let w = window_offset h x in
    let read : (i : ℕ) → read_bit h w (loaded h x) i ≡ bit_at (byte_at m k a) i =
    λ i. (λ j. if compare j then compared_bit h (loaded h x) i else bit_at (of_plane (loaded h x) (picked j)) i) ∙ ap (λ n. bit_at n i) (at k lk) in
    let v : read_byte h x ≡ byte_at m k a =
    sym (byte_from_bits (byte_at m k a) (λ i. read_bit h w (loaded h x) i) byte (λ i li. sym (read i))) in
    let kept : StoresByteUnchanged (after_get h x) = record { mode = plain.mode; rotate = plain.rotate; function = plain.function; own = plain.own; mask = plain.mask } in
    let own : (p : ℕ) → p < 4 → reach p ≡ true → written_byte (after_get h x) (read_byte h x) p ≡ byte_at m p a =
    λ p l e.
    sym (byte_from_bits (byte_at m k a) (λ i. written_bit (after_get h x) (read_byte h x) p i) byte
    (λ i li. ap (λ n. bit_at n i) (sym v) ∙ sym (plain_bit (after_get h x) (read_byte h x) p i kept l li)))
    ∙ ap (λ q. byte_at m q a) (sym (only p l e)) in
    one_move h misc x y a b reach dx dy ea eb reached own

-- ---- moves one after another

pub and_turned : (d e : Bool) → (d && e) ≡ (e && d)
and_turned true true = refl
and_turned true false = refl
and_turned false true = refl
and_turned false false = refl

none_through : (m d e : Bool) → m ≡ false → (m && d) ≡ (e && m)
none_through true d e is = absurd (cc)
none_through false d e is = sym (and_turned e false)

-- plane k alone, where the map mask has it
abbrev pub plane_alone : HostState → ℕ → ℕ → Bool
plane_alone h k p = (p == k) && is_in_map_mask h p

left_true : (d e : Bool) → (d && e) ≡ true → d ≡ true
left_true true e both = refl
left_true false e both = absurd (cc)

pub alone_is : (h : HostState) (k p : ℕ) → plane_alone h k p ≡ true → p ≡ k
alone_is h k p both = let one : (p == k) ≡ true = left_true (p == k) (is_in_map_mask h p) both in grind (arith, nat_tests)

-- a byte stays where a plane gets at one offset what it has at another
byte_stays : (d : Bool) (l : List ℕ) (a b : ℕ) → slice_index (if d then slice_set l b (slice_index l a) else l) a ≡ slice_index l a
byte_stays false l a b = refl
byte_stays true l a b =
    eq_elim (a == b) refl
  where
    eq_elim : (e : Bool) → (a == b) ≡ e → slice_index (slice_set l b (slice_index l a)) a ≡ slice_index l a
    eq_elim true is = let same : a ≡ b = grind (arith, nat_tests) in ap (λ n. slice_index (slice_set l n (slice_index l a)) a) (sym same)
        ∙ ap (λ x. slice_index x a) (set-get_or l a 0)
    eq_elim false is = let other : a ≢ b = grind (arith, nat_tests) in get_or-set_other l b a (slice_index l a) 0 other

pub in_four : (a j : ℕ) → a % 4 ≡ 0 → j < 4 → (a + j) / 4 * 4 ≡ a
in_four a j even less = omega (arith, even, less)

pub of_four : (a j : ℕ) → a % 4 ≡ 0 → j < 4 → (a + j) % 4 ≡ j
of_four a j even less = omega (arith, even, less)

pub in_two : (a j : ℕ) → a % 2 ≡ 0 → j < 2 → (a + j) / 2 * 2 ≡ a
in_two a j even less = omega (arith, even, less)

pub of_two : (a j : ℕ) → a % 2 ≡ 0 → j < 2 → (a + j) % 2 ≡ j
of_two a j even less = omega (arith, even, less)

from_zero : (m j : ℕ) → m ≡ j → 0 + m ≡ j
from_zero m j is = omega (arith, is)

pub next_place : (f i j : ℕ) → (f + i) % 4 ≡ 0 → j < 4 → (f + (i + j)) % 65536 ≡ (f + i) % 65536 + j
next_place f i j even less = omega (arith, even, less)

-- in a chain of four, the byte of place j of four moves alone
chained : (s : HostState) (misc x y a b j : ℕ) → j < 4 → is_chain_four s ≡ true → StoresByteUnchanged s → is_read_compare s ≡ false
    → is_decoded s misc x ≡ true → is_decoded s misc y ≡ true → window_offset s x ≡ a + j → window_offset s y ≡ b + j
    → a % 4 ≡ 0 → b % 4 ≡ 0 → byte_at s.memory j a < 256 → after_move_if_decoded s misc x y ≡ with_word_copied s (plane_alone s j) a b
chained s misc x y a b j less four plain compare dx dy px py ea eb byte =
    let ox : plane_offset s (window_offset s x) ≡ a =
    (λ t. if four t then px t / 4 * 4 else if is_chain_odd_even s then px t / 2 * 2 else px t) ∙ in_four a j ea less in
    let oy : plane_offset s (window_offset s y) ≡ b =
    (λ t. if four t then py t / 4 * 4 else if is_chain_odd_even s then py t / 2 * 2 else py t) ∙ in_four b j eb less in
    let picked : picked_plane s (window_offset s x) ≡ j =
    (λ t. if four t then px t % 4 else if is_odd_even_read s then 2 * read_map_pair s + px t % 2 else read_map_select s) ∙ of_four a j ea less in
    let w : window_offset s y % 4 ≡ j = ap (λ n. n % 4) py ∙ of_four b j eb less in
    let reached : (p : ℕ) → p < 4 → is_reached s (window_offset s y) p ≡ plane_alone s j p =
    λ p l. (λ t. is_in_map_mask s p && (if four t then p == w t else is_odd_even_off s || (p % 2 == window_offset s y % 2)))
    ∙ and_turned (is_in_map_mask s p) (p == j) in
    plane_moved s misc x y a b j (plane_alone s j) less plain compare dx dy ox oy picked reached (λ p l. alone_is s j p) byte

-- where odd and even addresses are apart, and the first pair of planes is read and the second not written, a byte of one of two places moves alone
paired : (s : HostState) (misc x y a b j : ℕ) → j < 2 → is_chain_four s ≡ false → is_chain_odd_even s ≡ true → is_odd_even_off s ≡ false
    → is_odd_even_read s ≡ true → read_map_pair s ≡ 0 → is_in_map_mask s 2 ≡ false → is_in_map_mask s 3 ≡ false → StoresByteUnchanged s → is_read_compare s ≡ false
    → is_decoded s misc x ≡ true → is_decoded s misc y ≡ true → window_offset s x ≡ a + j → window_offset s y ≡ b + j
    → a % 2 ≡ 0 → b % 2 ≡ 0 → byte_at s.memory j a < 256 → after_move_if_decoded s misc x y ≡ with_word_copied s (plane_alone s j) a b
paired s misc x y a b j less four pairs off apart pair two three plain compare dx dy px py ea eb byte =
    let ox : plane_offset s (window_offset s x) ≡ a =
    (λ t. if four t then px t / 4 * 4 else if pairs t then px t / 2 * 2 else px t) ∙ in_two a j ea less in
    let oy : plane_offset s (window_offset s y) ≡ b =
    (λ t. if four t then py t / 4 * 4 else if pairs t then py t / 2 * 2 else py t) ∙ in_two b j eb less in
    let picked : picked_plane s (window_offset s x) ≡ j =
    (λ t. if four t then px t % 4 else if apart t then 2 * pair t + px t % 2 else read_map_select s) ∙ from_zero ((a + j) % 2) j (of_two a j ea less) in
    let w : window_offset s y % 2 ≡ j = ap (λ n. n % 2) py ∙ of_two b j eb less in
    let through : (p : ℕ) → is_reached s (window_offset s y) p ≡ (is_in_map_mask s p && (p % 2 == j)) =
    λ p t. is_in_map_mask s p && (if four t then p == window_offset s y % 4 else off t || (p % 2 == w t)) in
    plane_moved s misc x y a b j (plane_alone s j) (omega (arith, less)) plain compare dx dy ox oy picked
    (by_plane (λ p. is_reached s (window_offset s y) p ≡ plane_alone s j p) (through 0 ∙ and_turned (is_in_map_mask s 0) (0 == j))
    (through 1 ∙ and_turned (is_in_map_mask s 1) (1 == j)) (through 2 ∙ none_through (is_in_map_mask s 2) (0 == j) (2 == j) two)
    (through 3 ∙ none_through (is_in_map_mask s 3) (1 == j) (3 == j) three)) (λ p l. alone_is s j p) byte

-- ---- words

-- planes alone one after the other are a word in the planes of the map mask
four_alone : (h : HostState) (a b : ℕ) → (let one : HostState = with_word_copied h (plane_alone h 0) a b in
    let two : HostState = with_word_copied one (plane_alone h 1) a b in let three : HostState = with_word_copied two (plane_alone h 2) a b in
    with_word_copied three (plane_alone h 3) a b ≡ with_word_copied h (is_in_map_mask h) a b)
four_alone h a b =
    let m = h.memory in
    let k0 = byte_stays (is_in_map_mask h 0) m.plane0 a b in
    let k1 = byte_stays (is_in_map_mask h 1) m.plane1 a b in
    let k2 = byte_stays (is_in_map_mask h 2) m.plane2 a b in
    let after : HostState = with_word_copied h (is_in_map_mask h) a b in
    λ t. record after { latches = record { plane0 = k0 t; plane1 = k1 t; plane2 = k2 t; plane3 = slice_index m.plane3 a } }

two_alone : (h : HostState) (a b : ℕ) → is_in_map_mask h 2 ≡ false → is_in_map_mask h 3 ≡ false → (let one : HostState = with_word_copied h (plane_alone h 0) a b in
    with_word_copied one (plane_alone h 1) a b ≡ with_word_copied h (is_in_map_mask h) a b)
two_alone h a b two three =
    let m = h.memory in
    let k0 = byte_stays (is_in_map_mask h 0) m.plane0 a b in
    let after : HostState = with_word_copied h (is_in_map_mask h) a b in
    λ t. record after {
      latches = record { plane0 = k0 t; plane1 = slice_index m.plane1 a; plane2 = slice_index m.plane2 a; plane3 = slice_index m.plane3 a };
      memory = record {
        plane0 = after.memory.plane0;
        plane1 = after.memory.plane1;
        plane2 = if sym two t then slice_set m.plane2 b (slice_index m.plane2 a) else m.plane2;
        plane3 = if sym three t then slice_set m.plane3 b (slice_index m.plane3 a) else m.plane3;
      };
    }

-- each byte at an offset is one
abbrev pub AreBytes : HostState → ℕ → Type 0
AreBytes h a = (p : ℕ) → p < 4 → byte_at h.memory p a < 256

plain_kept : (h : HostState) (reach : ℕ → Bool) (a b : ℕ) → StoresByteUnchanged h → StoresByteUnchanged (with_word_copied h reach a b)
plain_kept h reach a b is = record { mode = is.mode; rotate = is.rotate; function = is.function; own = is.own; mask = is.mask }

-- in a chain of four, four moves from a word's first byte on move the word
pub four_moved : (h : HostState) (misc from to n f t i : ℕ) → AreMovesDecoded h misc from to n f t → is_chain_four h ≡ true → StoresByteUnchanged h → is_read_compare h ≡ false
    → f % 4 ≡ 0 → t % 4 ≡ 0 → i % 4 ≡ 0 → i + 4 ≤ n → AreBytes h ((f + i) % 65536)
    → after_moves misc from to 4 i h ≡ with_word_copied h (is_in_map_mask h) ((f + i) % 65536) ((t + i) % 65536)
four_moved h misc from to n f t i within chain plain compare ef et ei room bytes =
    let a = (f + i) % 65536 in
    let b = (t + i) % 65536 in
    let af : a % 4 ≡ 0 = omega (arith, ef, ei) in
    let bf : b % 4 ≡ 0 = omega (arith, et, ei) in
    let s1 : HostState = with_word_copied h (plane_alone h 0) a b in
    let s2 : HostState = with_word_copied s1 (plane_alone h 1) a b in
    let s3 : HostState = with_word_copied s2 (plane_alone h 2) a b in
    let p1 = plain_kept h (plane_alone h 0) a b plain in
    let p2 = plain_kept s1 (plane_alone h 1) a b p1 in
    let p3 = plain_kept s2 (plane_alone h 2) a b p2 in
    let in_window : (x k j : ℕ) → k ≡ i + j → j < 4 → (x + i) % 4 ≡ 0 → (x + k) % 65536 ≡ (x + i) % 65536 + j =
    λ x k j e l m. ap (λ n. (x + n) % 65536) e ∙ next_place x i j m l in
    let fi : (f + i) % 4 ≡ 0 = omega (arith, ef, ei) in
    let ti : (t + i) % 4 ≡ 0 = omega (arith, et, ei) in
    let l0 : i < n = omega (arith, room) in
    let l1 : i + 1 < n = omega (arith, room) in
    let l2 : i + 1 + 1 < n = omega (arith, room) in
    let l3 : i + 1 + 1 + 1 < n = omega (arith, room) in
    let e0 = chained h misc (from + i) (to + i) a b 0 (omega arith) chain plain compare (within.read i l0) (within.written i l0)
    (within.from_place i l0 ∙ in_window f i 0 (omega arith) (omega arith) fi) (within.to_place i l0
    ∙ in_window t i 0 (omega arith) (omega arith) ti) af bf (bytes 0 (omega arith)) in
    let e1 = chained s1 misc (from + (i + 1)) (to + (i + 1)) a b 1 (omega arith) chain p1 compare (within.read (i + 1) l1) (within.written (i + 1) l1)
    (within.from_place (i + 1) l1 ∙ in_window f (i + 1) 1 (omega arith) (omega arith) fi) (within.to_place (i + 1) l1
    ∙ in_window t (i + 1) 1 (omega arith) (omega arith) ti) af bf
    (bytes 1 (omega arith)) in
    let e2 = chained s2 misc (from + (i + 1 + 1)) (to + (i + 1 + 1)) a b 2 (omega arith) chain p2 compare (within.read (i + 1 + 1) l2)
    (within.written (i + 1 + 1) l2)
    (within.from_place (i + 1 + 1) l2 ∙ in_window f (i + 1 + 1) 2 (omega arith) (omega arith) fi)
    (within.to_place (i + 1 + 1) l2 ∙ in_window t (i + 1 + 1) 2 (omega arith) (omega arith) ti) af bf (bytes 2 (omega arith)) in
    let e3 = chained s3 misc (from + (i + 1 + 1 + 1)) (to + (i + 1 + 1 + 1)) a b 3 (omega arith) chain p3 compare (within.read (i + 1 + 1 + 1) l3)
    (within.written (i + 1 + 1 + 1) l3)
    (within.from_place (i + 1 + 1 + 1) l3 ∙ in_window f (i + 1 + 1 + 1) 3 (omega arith) (omega arith) fi)
    (within.to_place (i + 1 + 1 + 1) l3 ∙ in_window t (i + 1 + 1 + 1) 3 (omega arith) (omega arith) ti) af bf (bytes 3 (omega arith)) in
    ap (after_moves misc from to 3 (i + 1)) e0 ∙ ap (after_moves misc from to 2 (i + 1 + 1)) e1 ∙ ap (after_moves misc from to 1 (i + 1 + 1 + 1)) e2
    ∙ e3 ∙ four_alone h a b

-- where odd and even addresses are apart, two moves from an even address on move the word
pub two_moved : (h : HostState) (misc from to n f t i : ℕ) → AreMovesDecoded h misc from to n f t → is_chain_four h ≡ false → is_chain_odd_even h ≡ true
    → is_odd_even_off h ≡ false → is_odd_even_read h ≡ true → read_map_pair h ≡ 0 → is_in_map_mask h 2 ≡ false → is_in_map_mask h 3 ≡ false
    → StoresByteUnchanged h → is_read_compare h ≡ false
    → f % 2 ≡ 0 → t % 2 ≡ 0 → i % 2 ≡ 0 → i + 2 ≤ n → AreBytes h ((f + i) % 65536)
    → after_moves misc from to 2 i h ≡ with_word_copied h (is_in_map_mask h) ((f + i) % 65536) ((t + i) % 65536)
two_moved h misc from to n f t i within chain pairs off apart pair two three plain compare ef et ei room bytes =
    let a = (f + i) % 65536 in
    let b = (t + i) % 65536 in
    let af : a % 2 ≡ 0 = omega (arith, ef, ei) in
    let bf : b % 2 ≡ 0 = omega (arith, et, ei) in
    let s1 : HostState = with_word_copied h (plane_alone h 0) a b in
    let p1 = plain_kept h (plane_alone h 0) a b plain in
    let even_place : (x k j : ℕ) → k ≡ i + j → j < 2 → (x + i) % 2 ≡ 0 → (x + k) % 65536 ≡ (x + i) % 65536 + j = λ x k j e l m. omega (arith, e, l, m) in
    let fi : (f + i) % 2 ≡ 0 = omega (arith, ef, ei) in
    let ti : (t + i) % 2 ≡ 0 = omega (arith, et, ei) in
    let l0 : i < n = omega (arith, room) in
    let l1 : i + 1 < n = omega (arith, room) in
    let e0 = paired h misc (from + i) (to + i) a b 0 (omega arith) chain pairs off apart pair two three plain compare (within.read i l0) (within.written i l0)
    (within.from_place i l0 ∙ even_place f i 0 (omega arith) (omega arith) fi) (within.to_place i l0 ∙ even_place t i 0 (omega arith) (omega arith) ti) af bf
    (bytes 0 (omega arith)) in
    let e1 = paired s1 misc (from + (i + 1)) (to + (i + 1)) a b 1 (omega arith) chain pairs off apart pair two three p1 compare (within.read (i + 1) l1)
    (within.written (i + 1) l1)
    (within.from_place (i + 1) l1 ∙ even_place f (i + 1) 1 (omega arith) (omega arith) fi)
    (within.to_place (i + 1) l1 ∙ even_place t (i + 1) 1 (omega arith) (omega arith) ti) af bf (bytes 1 (omega arith)) in
    ap (after_moves misc from to 1 (i + 1)) e0 ∙ e1 ∙ two_alone h a b two three

-- in write mode 1, where no bit of an address picks a plane, a move moves a word
pub latch_moved : (h : HostState) (misc from to n f t i : ℕ) → AreMovesDecoded h misc from to n f t → write_mode h ≡ 1 → is_chain_four h ≡ false
    → is_chain_odd_even h ≡ false → is_odd_even_off h ≡ true → i < n → AreBytes h ((f + i) % 65536)
    → after_move_if_decoded h misc (from + i) (to + i) ≡ with_word_copied h (is_in_map_mask h) ((f + i) % 65536) ((t + i) % 65536)
latch_moved h misc from to n f t i within mode chain pairs off less bytes =
    let offset : (w c : ℕ) → w ≡ c → plane_offset h w ≡ c =
    λ w c e. (λ s. if chain s then w / 4 * 4 else if pairs s then w / 2 * 2 else w) ∙ e in
    let all : (d : Bool) → (d && true) ≡ d = λ d. and_turned d true in
    latches_moved h misc (from + i) (to + i) ((f + i) % 65536) ((t + i) % 65536) mode (within.read i less) (within.written i less)
    (offset (window_offset h (from + i)) _ (within.from_place i less)) (offset (window_offset h (to + i)) _ (within.to_place i less))
    (λ p l. (λ s. is_in_map_mask h p && (if chain s then p == window_offset h (to + i) % 4 else off s || (p % 2 == window_offset h (to + i) % 2)))
    ∙ all (is_in_map_mask h p)) bytes

-- ---- runs

within_kept : (h : HostState) (m : Four (List ℕ)) (l : Four ℕ) (misc from to n f t : ℕ) → AreMovesDecoded h misc from to n f t →
    (let s : HostState = record h { memory = m; latches = l } in AreMovesDecoded s misc from to n f t)
within_kept h m l misc from to n f t is = record { read = is.read; written = is.written; from_place = is.from_place; to_place = is.to_place }

pub latch_words : (h : HostState) (misc from to n f t : ℕ) → AreMovesDecoded h misc from to n f t → MovesCopyLatches h → MovesCopyWords 1 h misc from to n f t
latch_words h misc from to n f t within is = record {
  some = omega arith;
  next = λ i e. omega (arith, e);
  moved = λ m l i e room bytes. let s : HostState = record h { memory = m; latches = l } in
      latch_moved s misc from to n f t i (within_kept h m l misc from to n f t within) is.mode is.chain_four is.chain_odd_even is.odd_even_off (omega (arith, room)) bytes;
}

plain_over : (h : HostState) (m : Four (List ℕ)) (l : Four ℕ) → StoresByteUnchanged h → (let s : HostState = record h { memory = m; latches = l } in StoresByteUnchanged s)
plain_over h m l is = record { mode = is.mode; rotate = is.rotate; function = is.function; own = is.own; mask = is.mask }

pub four_words : (h : HostState) (misc from to n f t : ℕ) → AreMovesDecoded h misc from to n f t → MovesCopyByFours h f t → MovesCopyWords 4 h misc from to n f t
four_words h misc from to n f t within is = record {
  some = omega arith;
  next = λ i e. omega (arith, e);
  moved = λ m l i e room bytes. let s : HostState = record h { memory = m; latches = l } in
      four_moved s misc from to n f t i (within_kept h m l misc from to n f t within) is.chain_four (plain_over h m l is.stores_byte) is.compare is.from_place is.to_place
      e room bytes;
}

pub pair_words : (h : HostState) (misc from to n f t : ℕ) → AreMovesDecoded h misc from to n f t → MovesCopyByPairs h f t → MovesCopyWords 2 h misc from to n f t
pair_words h misc from to n f t within is = record {
  some = omega arith;
  next = λ i e. omega (arith, e);
  moved = λ m l i e room bytes. let s : HostState = record h { memory = m; latches = l } in
      two_moved s misc from to n f t i (within_kept h m l misc from to n f t within) is.writes.chain_four is.writes.chain_odd_even is.writes.odd_even_off is.reads.apart is.reads.pair
      is.writes.plane2 is.writes.plane3 (plain_over h m l is.writes.stores_byte) is.reads.compare is.from_place is.to_place e room bytes;
}

-- moves one after another are all of them
pub moves_add : (misc from to k r i : ℕ) (h : HostState) → after_moves misc from to (k + r) i h
    ≡ after_moves misc from to r (i + k) (after_moves misc from to k i h)
moves_add misc from to zero r i h =
    let e : zero + r ≡ r = omega arith in
    let z : i ≡ i + zero = omega arith in
    ap (λ n. after_moves misc from to n i h) e ∙ ap (λ n. after_moves misc from to r n h) z
moves_add misc from to (suc k) r i h =
    let e : suc k + r ≡ suc (k + r) = omega arith in
    let z : i + 1 + k ≡ i + suc k = omega arith in
    ap (λ n. after_moves misc from to n i h) e ∙ moves_add misc from to k r (i + 1) (after_move_if_decoded h misc (from + i) (to + i))
    ∙ ap (λ n. after_moves misc from to r n (after_moves misc from to k (i + 1) (after_move_if_decoded h misc (from + i) (to + i)))) z

-- a host with other memory and latches
abbrev pub over : HostState → Four (List ℕ) → Four ℕ → HostState
over h m l = record h { memory = m; latches = l }

pub access_over : (access : MemoryAccess) (h : HostState) (m : Four (List ℕ)) (l : Four ℕ) → IsAccess access h → IsAccess access (over h m l)
access_over access h m l is = record {
  start = is.start;
  len = is.len;
  small = is.small;
  chain_four = is.chain_four;
  chain_odd_even = is.chain_odd_even;
  odd_even_off = is.odd_even_off;
  map_mask = is.map_mask;
  stores_byte = λ e. plain_over h m l (is.stores_byte e);
  stores_latches = is.stores_latches;
}

-- what a loop over words keeps
pub words_go_on : (h s r : HostState) (per misc from to n f t done : ℕ) → MovesCopyWords per h misc from to n f t → per ≤ n - done → done ≤ n → done % per ≡ 0
    → over h s.memory s.latches ≡ s → after_moves misc from to done 0 h ≡ s → AreBytes s ((f + done) % 65536)
    → r ≡ with_word_copied s (is_in_map_mask h) ((f + done) % 65536) ((t + done) % 65536)
    → (done + per ≤ n) × ((done + per) % per ≡ 0) × (over h r.memory r.latches ≡ r) × (after_moves misc from to (done + per) 0 h ≡ r)
words_go_on h s r per misc from to n f t done words room few whole same moved bytes is =
    let left : done + per ≤ n = omega (arith, room, few) in
    let after : HostState = with_word_copied s (is_in_map_mask h) ((f + done) % 65536) ((t + done) % 65536) in
    let z : 0 + done ≡ done = omega arith in (
      left,
      words.next done whole,
      subst (λ (x : HostState). over h x.memory x.latches ≡ x) (sym is) (ap (λ (x : HostState). over x after.memory after.latches) same),
      moves_add misc from to done per 0 h ∙ ap (λ (k : ℕ). after_moves misc from to per k (after_moves misc from to done 0 h)) z
          ∙ ap (after_moves misc from to per done) (moved ∙ sym same) ∙ words.moved s.memory s.latches done whole left bytes
          ∙ ap (λ (x : HostState). with_word_copied x (is_in_map_mask h) ((f + done) % 65536) ((t + done) % 65536)) same ∙ sym is,
    )

-- the rest of n moves, after those that are done, leaves what all n moves leave
pub moves_rest : (misc from to n done : ℕ) (h s : HostState) → done ≤ n → s ≡ after_moves misc from to done 0 h →
    after_moves misc from to (n - done) done s ≡ after_moves misc from to n 0 h
moves_rest misc from to n done h s few is =
    let z : done ≡ 0 + done = omega arith in
    let all : done + (n - done) ≡ n = omega (arith, few) in
    ap (after_moves misc from to (n - done) done) is ∙ ap (λ (k : ℕ). after_moves misc from to (n - done) k (after_moves misc from to done 0 h)) z
    ∙ sym (moves_add misc from to done (n - done) 0 h) ∙ ap (λ (k : ℕ). after_moves misc from to k 0 h) all
