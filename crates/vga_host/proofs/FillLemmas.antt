-- Fills that put words of the planes: one write where no address bit picks a plane; two where odd and even addresses are apart; four in a chain of four.
use Rattle.std.proofs.Common.{Bool, true, false, ◌≡◌, ℕ, zero, suc, ◌+◌, ◌-◌, ◌*◌, ◌/◌, ◌%◌, ◌<◌, ◌≤◌, ◌==◌, ◌&&◌, ◌||◌, refl, sym, ap, subst, ◌∙◌, arith, List}
use Rattle.std.proofs.Common.{if◌then◌else◌}
use Rattle.std.specs.Prelude.{not}
use Rattle.std.proofs.lemmas.Bool.Decides.{nat_tests}
use Rattle.vga_bits.proofs.FourLemmas.{by_plane}
use Rattle.vga_bits.specs.Four.{Four, four_by_plane, of_plane}
use Rattle.vga_host.specs.declared.host.memory.access.MemoryAccess.{MemoryAccess}
use Rattle.vga_host.specs.Host.{HostState}
use Rattle.vga_host.specs.Memory.Address.{is_decoded, window_offset, plane_offset, is_reached}
use Rattle.vga_host.specs.Sequencer.{is_in_map_mask, is_chain_four, is_odd_even_off}
use Rattle.vga_host.specs.Graphics.{is_chain_odd_even}
use Rattle.vga_host.specs.Memory.Write.{written_bit, combined_bit, written_byte, after_put, StoresByteUnchanged}
use Rattle.vga_host.specs.Memory.Runs.{after_put_if_decoded, after_puts, even_or_odd_byte, with_memory}
use Rattle.vga_host.specs.Memory.Access.{IsAccess}
use Rattle.vga_host.specs.Memory.PlaneWords.{with_word_stored, alternating_plane_bytes, word_of_byte_group, AreWritesDecoded, AddressPicksNoPlane, FillsByFours, FillsByPairs, WritesStoreWords}
use Rattle.vga_bits.proofs.BitLemmas.{byte_from_bits}
use Rattle.vga_host.proofs.StoresByteLemmas.{plain_bit}
use Rattle.vga_host.proofs.RunLemmas.{even_in_turn, odd_in_turn, Turns}
use Rattle.vga_host.proofs.WordLemmas.{plane_is, plane_alone, alone_is, and_turned, in_four, of_four, in_two, of_two, next_place, access_over}

-- ---- one write

-- a write to a decoded address puts a word, where the planes that it reaches get its bytes
one_put : (h : HostState) (misc y v b : ℕ) (reach : ℕ → Bool) (w : Four ℕ) → is_decoded h misc y ≡ true → plane_offset h (window_offset h y) ≡ b
    → ((p : ℕ) → p < 4 → is_reached h (window_offset h y) p ≡ reach p) → ((p : ℕ) → p < 4 → reach p ≡ true → written_byte h v p ≡ of_plane w p)
    → after_put_if_decoded h misc y v ≡ with_word_stored h reach b w
one_put h misc y v b reach w dy eb reached own =
    let m = h.memory in
    let d = window_offset h y in
    let o = plane_offset h d in
    let p0 = plane_is (is_reached h d 0) (reach 0) m.plane0 o b (written_byte h v 0) w.plane0 (reached 0 (omega arith)) eb (own 0 (omega arith)) in
    let p1 = plane_is (is_reached h d 1) (reach 1) m.plane1 o b (written_byte h v 1) w.plane1 (reached 1 (omega arith)) eb (own 1 (omega arith)) in
    let p2 = plane_is (is_reached h d 2) (reach 2) m.plane2 o b (written_byte h v 2) w.plane2 (reached 2 (omega arith)) eb (own 2 (omega arith)) in
    let p3 = plane_is (is_reached h d 3) (reach 3) m.plane3 o b (written_byte h v 3) w.plane3 (reached 3 (omega arith)) eb (own 3 (omega arith)) in
    let after : Four (List ℕ) → HostState = λ n. record h { memory = n } in
    (λ j. if dy j then after_put h y v else h) ∙ (λ j. after (record { plane0 = p0 j; plane1 = p1 j; plane2 = p2 j; plane3 = p3 j }))

-- what a write makes does not depend on memory
written_over : (h : HostState) (m : Four (List ℕ)) (v p : ℕ) → (let s : HostState = record h { memory = m } in written_byte s v p ≡ written_byte h v p)
unfolding written_bit combined_bit
written_over h m v p = refl

-- in a chain of four, a write puts its byte in one plane
put_chained : (s : HostState) (misc y v b j : ℕ) (w : Four ℕ) → j < 4 → is_chain_four s ≡ true → is_decoded s misc y ≡ true
    → window_offset s y ≡ b + j → b % 4 ≡ 0 → written_byte s v j ≡ of_plane w j → after_put_if_decoded s misc y v ≡ with_word_stored s (plane_alone s j) b w
put_chained s misc y v b j w less chain dy py eb own =
    let oy : plane_offset s (window_offset s y) ≡ b =
    (λ t. if chain t then py t / 4 * 4 else if is_chain_odd_even s then py t / 2 * 2 else py t) ∙ in_four b j eb less in
    let d : window_offset s y % 4 ≡ j = ap (λ n. n % 4) py ∙ of_four b j eb less in
    let reached : (p : ℕ) → p < 4 → is_reached s (window_offset s y) p ≡ plane_alone s j p =
    λ p l. (λ t. is_in_map_mask s p && (if chain t then p == d t else is_odd_even_off s || (p % 2 == window_offset s y % 2)))
    ∙ and_turned (is_in_map_mask s p) (p == j) in
    one_put s misc y v b (plane_alone s j) w dy oy reached
    (λ p l e. let is : p ≡ j = alone_is s j p e in ap (written_byte s v) is ∙ own ∙ ap (of_plane w) (sym is))

-- the planes of odd numbers, or of even ones, that the map mask has
abbrev pub planes_apart : HostState → ℕ → ℕ → Bool
planes_apart h k p = (p % 2 == k) && is_in_map_mask h p

apart_is : (d e : Bool) → (d && e) ≡ true → d ≡ true
apart_is true e both = refl
apart_is false e both = absurd (cc)

number_is : (a b : ℕ) → (a == b) ≡ true → a ≡ b
number_is a b is = grind (arith, nat_tests)

-- where odd and even addresses are apart, a write puts its bytes in two planes
put_paired : (s : HostState) (misc y v b j : ℕ) (w : Four ℕ) → j < 2 → is_chain_four s ≡ false → is_chain_odd_even s ≡ true → is_odd_even_off s ≡ false
    → is_decoded s misc y ≡ true → window_offset s y ≡ b + j → b % 2 ≡ 0 → ((p : ℕ) → p < 4 → p % 2 ≡ j → written_byte s v p ≡ of_plane w p)
    → after_put_if_decoded s misc y v ≡ with_word_stored s (planes_apart s j) b w
put_paired s misc y v b j w less chain pairs off dy py eb own =
    let oy : plane_offset s (window_offset s y) ≡ b =
    (λ t. if chain t then py t / 4 * 4 else if pairs t then py t / 2 * 2 else py t) ∙ in_two b j eb less in
    let d : window_offset s y % 2 ≡ j = ap (λ n. n % 2) py ∙ of_two b j eb less in
    let reached : (p : ℕ) → p < 4 → is_reached s (window_offset s y) p ≡ planes_apart s j p =
    λ p l. (λ t. is_in_map_mask s p && (if chain t then p == window_offset s y % 4 else off t || (p % 2 == d t)))
    ∙ and_turned (is_in_map_mask s p) (p % 2 == j) in
    let same : (p : ℕ) → planes_apart s j p ≡ true → p % 2 ≡ j = λ p e. number_is (p % 2) j (apart_is (p % 2 == j) (is_in_map_mask s p) e) in
    one_put s misc y v b (planes_apart s j) w dy oy reached (λ p l e. own p l (same p e))

-- ---- words

-- in a chain of four, four writes put a word
pub four_put : (h : HostState) (misc first n f i : ℕ) (g : ℕ → ℕ) (w : Four ℕ) → AreWritesDecoded h misc first n f → is_chain_four h ≡ true → f % 4 ≡ 0 → i % 4 ≡ 0
    → i + 4 ≤ n → written_byte h (g i) 0 ≡ w.plane0 → written_byte h (g (i + 1)) 1 ≡ w.plane1 → written_byte h (g (i + 1 + 1)) 2 ≡ w.plane2
    → written_byte h (g (i + 1 + 1 + 1)) 3 ≡ w.plane3 → after_puts misc first g 4 i h ≡ with_word_stored h (is_in_map_mask h) ((f + i) % 65536) w
four_put h misc first n f i g w within chain ef ei room own0 own1 own2 own3 =
    let b = (f + i) % 65536 in
    let bf : b % 4 ≡ 0 = omega (arith, ef, ei) in
    let s1 : HostState = with_word_stored h (plane_alone h 0) b w in
    let s2 : HostState = with_word_stored s1 (plane_alone h 1) b w in
    let s3 : HostState = with_word_stored s2 (plane_alone h 2) b w in
    let in_window : (k j : ℕ) → k ≡ i + j → j < 4 → (f + k) % 65536 ≡ b + j =
    λ k j e l. ap (λ n. (f + n) % 65536) e ∙ next_place f i j (omega (arith, ef, ei)) l in
    let l0 : i < n = omega (arith, room) in
    let l1 : i + 1 < n = omega (arith, room) in
    let l2 : i + 1 + 1 < n = omega (arith, room) in
    let l3 : i + 1 + 1 + 1 < n = omega (arith, room) in
    let e0 = put_chained h misc (first + i) (g i) b 0 w (omega arith) chain (within.written i l0)
    (within.in_window i l0 ∙ in_window i 0 (omega arith) (omega arith)) bf own0 in
    let e1 = put_chained s1 misc (first + (i + 1)) (g (i + 1)) b 1 w (omega arith) chain (within.written (i + 1) l1)
    (within.in_window (i + 1) l1 ∙ in_window (i + 1) 1 (omega arith) (omega arith)) bf (written_over h s1.memory (g (i + 1)) 1 ∙ own1) in
    let e2 = put_chained s2 misc (first + (i + 1 + 1)) (g (i + 1 + 1)) b 2 w (omega arith) chain (within.written (i + 1 + 1) l2)
    (within.in_window (i + 1 + 1) l2 ∙ in_window (i + 1 + 1) 2 (omega arith) (omega arith)) bf (written_over h s2.memory (g (i + 1 + 1)) 2 ∙ own2) in
    let e3 = put_chained s3 misc (first + (i + 1 + 1 + 1)) (g (i + 1 + 1 + 1)) b 3 w (omega arith) chain (within.written (i + 1 + 1 + 1) l3)
    (within.in_window (i + 1 + 1 + 1) l3 ∙ in_window (i + 1 + 1 + 1) 3 (omega arith) (omega arith)) bf (written_over h s3.memory (g (i + 1 + 1 + 1)) 3 ∙ own3) in
    ap (after_puts misc first g 3 (i + 1)) e0 ∙ ap (after_puts misc first g 2 (i + 1 + 1)) e1 ∙ ap (after_puts misc first g 1 (i + 1 + 1 + 1)) e2 ∙ e3

-- and so do four writes of two bytes in turn
four_filled : (h : HostState) (misc first n f even odd i : ℕ) → AreWritesDecoded h misc first n f → is_chain_four h ≡ true → f % 4 ≡ 0 → i % 4 ≡ 0 → i + 4 ≤ n
    → after_puts misc first (even_or_odd_byte even odd) 4 i h
    ≡ with_word_stored h (is_in_map_mask h) ((f + i) % 65536) (alternating_plane_bytes (four_by_plane (λ p. written_byte h even p)) (four_by_plane (λ p. written_byte h odd p)))
four_filled h misc first n f even odd i within chain ef ei room =
    let w = alternating_plane_bytes (four_by_plane (λ p. written_byte h even p)) (four_by_plane (λ p. written_byte h odd p)) in
    four_put h misc first n f i (even_or_odd_byte even odd) w within chain ef ei room
    (ap (λ v. written_byte h v 0) (sym (even_in_turn even odd i (omega (arith, ei)))))
    (ap (λ v. written_byte h v 1) (sym (odd_in_turn even odd (i + 1) (λ e. omega (arith, ei, e)))))
    (ap (λ v. written_byte h v 2) (sym (even_in_turn even odd (i + 1 + 1) (omega (arith, ei)))))
    (ap (λ v. written_byte h v 3) (sym (odd_in_turn even odd (i + 1 + 1 + 1) (λ e. omega (arith, ei, e)))))

even_plane : (h : HostState) (even odd p : ℕ) → p < 4 → p % 2 ≡ 0
    → written_byte h even p ≡ of_plane (alternating_plane_bytes (four_by_plane (λ p. written_byte h even p)) (four_by_plane (λ p. written_byte h odd p))) p
even_plane h even odd p l is =
    by_plane (λ p. p % 2 ≡ 0 → written_byte h even p ≡ of_plane (alternating_plane_bytes (four_by_plane (λ p. written_byte h even p)) (four_by_plane (λ p. written_byte h odd p))) p)
    (λ e. refl) (λ e. absurd (cc)) (λ e. refl) (λ e. absurd (cc)) p l is

odd_plane : (h : HostState) (even odd p : ℕ) → p < 4 → p % 2 ≡ 1
    → written_byte h odd p ≡ of_plane (alternating_plane_bytes (four_by_plane (λ p. written_byte h even p)) (four_by_plane (λ p. written_byte h odd p))) p
odd_plane h even odd p l is =
    by_plane (λ p. p % 2 ≡ 1 → written_byte h odd p ≡ of_plane (alternating_plane_bytes (four_by_plane (λ p. written_byte h even p)) (four_by_plane (λ p. written_byte h odd p))) p)
    (λ e. absurd (cc)) (λ e. refl) (λ e. absurd (cc)) (λ e. refl) p l is

-- where odd and even addresses are apart, two writes put a word
pub two_put : (h : HostState) (misc first n f i : ℕ) (g : ℕ → ℕ) (w : Four ℕ) → AreWritesDecoded h misc first n f → is_chain_four h ≡ false
    → is_chain_odd_even h ≡ true → is_odd_even_off h ≡ false → f % 2 ≡ 0 → i % 2 ≡ 0 → i + 2 ≤ n
    → ((p : ℕ) → p < 4 → p % 2 ≡ 0 → written_byte h (g i) p ≡ of_plane w p) → ((p : ℕ) → p < 4 → p % 2 ≡ 1 → written_byte h (g (i + 1)) p ≡ of_plane w p)
    → after_puts misc first g 2 i h ≡ with_word_stored h (is_in_map_mask h) ((f + i) % 65536) w
two_put h misc first n f i g w within chain pairs off ef ei room own0 own1 =
    let b = (f + i) % 65536 in
    let bf : b % 2 ≡ 0 = omega (arith, ef, ei) in
    let s1 : HostState = with_word_stored h (planes_apart h 0) b w in
    let l0 : i < n = omega (arith, room) in
    let l1 : i + 1 < n = omega (arith, room) in
    let place1 : (f + (i + 1)) % 65536 ≡ b + 1 = omega (arith, ef, ei) in
    let place0 : (f + i) % 65536 ≡ b + 0 = omega arith in
    let e0 = put_paired h misc (first + i) (g i) b 0 w (omega arith) chain pairs off (within.written i l0) (within.in_window i l0 ∙ place0) bf own0 in
    let e1 = put_paired s1 misc (first + (i + 1)) (g (i + 1)) b 1 w (omega arith) chain pairs off (within.written (i + 1) l1) (within.in_window (i + 1) l1
    ∙ place1) bf (λ p l e. written_over h s1.memory (g (i + 1)) p ∙ own1 p l e) in
    ap (after_puts misc first g 1 (i + 1)) e0 ∙ e1

-- and so do two writes of two bytes in turn
two_filled : (h : HostState) (misc first n f even odd i : ℕ) → AreWritesDecoded h misc first n f → is_chain_four h ≡ false → is_chain_odd_even h ≡ true
    → is_odd_even_off h ≡ false → f % 2 ≡ 0 → i % 2 ≡ 0 → i + 2 ≤ n
    → after_puts misc first (even_or_odd_byte even odd) 2 i h
    ≡ with_word_stored h (is_in_map_mask h) ((f + i) % 65536) (alternating_plane_bytes (four_by_plane (λ p. written_byte h even p)) (four_by_plane (λ p. written_byte h odd p)))
two_filled h misc first n f even odd i within chain pairs off ef ei room =
    let w = alternating_plane_bytes (four_by_plane (λ p. written_byte h even p)) (four_by_plane (λ p. written_byte h odd p)) in
    two_put h misc first n f i (even_or_odd_byte even odd) w within chain pairs off ef ei room
    (λ p l e. ap (λ v. written_byte h v p) (sym (even_in_turn even odd i ei)) ∙ even_plane h even odd p l e)
    (λ p l e. ap (λ v. written_byte h v p) (sym (odd_in_turn even odd (i + 1) (λ e. omega (arith, ei, e)))) ∙ odd_plane h even odd p l e)

-- where no bit of an address picks a plane, a write puts a word
one_filled : (h : HostState) (misc first n f v i : ℕ) → AreWritesDecoded h misc first n f → is_chain_four h ≡ false → is_chain_odd_even h ≡ false
    → is_odd_even_off h ≡ true → i < n → after_put_if_decoded h misc (first + i) v ≡ with_word_stored h (is_in_map_mask h) ((f + i) % 65536) (four_by_plane (λ p. written_byte h v p))
one_filled h misc first n f v i within chain pairs off less =
    let d = window_offset h (first + i) in
    let offset : plane_offset h d ≡ (f + i) % 65536 = (λ s. if chain s then d / 4 * 4 else if pairs s then d / 2 * 2 else d) ∙ within.in_window i less in
    let all : (e : Bool) → (e && true) ≡ e = λ e. and_turned e true in
    let w = four_by_plane (λ p. written_byte h v p) in
    one_put h misc (first + i) v ((f + i) % 65536) (is_in_map_mask h) w (within.written i less) offset
    (λ p l. (λ s. is_in_map_mask h p && (if chain s then p == d % 4 else off s || (p % 2 == d % 2))) ∙ all (is_in_map_mask h p))
    (λ p l e. by_plane (λ p. written_byte h v p ≡ of_plane w p) refl refl refl refl p l)

-- ---- runs

put_within : (h : HostState) (m : Four (List ℕ)) (misc first n f : ℕ) → AreWritesDecoded h misc first n f →
    (let s : HostState = record h { memory = m } in AreWritesDecoded s misc first n f)
put_within h m misc first n f is = record { written = is.written; in_window = is.in_window }

-- a word of what the writes make over any memory
word_over : (h : HostState) (m : Four (List ℕ)) (v : ℕ) → (let s : HostState = record h { memory = m } in
    four_by_plane (λ p. written_byte s v p) ≡ four_by_plane (λ p. written_byte h v p))
word_over h m v = λ j. four_by_plane (λ p. written_over h m v p j)

pub four_fills : (h : HostState) (misc first n f even odd : ℕ) → AreWritesDecoded h misc first n f → FillsByFours h f →
    WritesStoreWords 4 h misc first n f (even_or_odd_byte even odd) (λ i. alternating_plane_bytes (four_by_plane (λ p. written_byte h even p)) (four_by_plane (λ p. written_byte h odd p)))
four_fills h misc first n f even odd within is = record {
  some = omega arith;
  next = λ i e. omega (arith, e);
  put = λ m i e room. let s : HostState = record h { memory = m } in
      four_filled s misc first n f even odd i (put_within h m misc first n f within) is.chain_four is.in_window e room
      ∙ (λ j. with_word_stored s (is_in_map_mask h) ((f + i) % 65536) (alternating_plane_bytes (word_over h m even j) (word_over h m odd j)));
}

pub pair_fills : (h : HostState) (misc first n f even odd : ℕ) → AreWritesDecoded h misc first n f → FillsByPairs h f →
    WritesStoreWords 2 h misc first n f (even_or_odd_byte even odd) (λ i. alternating_plane_bytes (four_by_plane (λ p. written_byte h even p)) (four_by_plane (λ p. written_byte h odd p)))
pair_fills h misc first n f even odd within is = record {
  some = omega arith;
  next = λ i e. omega (arith, e);
  put = λ m i e room. let s : HostState = record h { memory = m } in
      two_filled s misc first n f even odd i (put_within h m misc first n f within) is.chain_four is.chain_odd_even is.odd_even_off is.in_window e room
      ∙ (λ j. with_word_stored s (is_in_map_mask h) ((f + i) % 65536) (alternating_plane_bytes (word_over h m even j) (word_over h m odd j)));
}

same_turn : (v i : ℕ) (d : Bool) → (if d then v else v) ≡ v
same_turn v i true = refl
same_turn v i false = refl

pub plane_fills : (h : HostState) (misc first n f v : ℕ) → AreWritesDecoded h misc first n f → AddressPicksNoPlane h →
    WritesStoreWords 1 h misc first n f (even_or_odd_byte v v) (λ i. four_by_plane (λ p. written_byte h v p))
plane_fills h misc first n f v within is = record {
  some = omega arith;
  next = λ i e. omega (arith, e);
  put = λ m i e room. let s : HostState = record h { memory = m } in
      ap (after_put_if_decoded s misc (first + i)) (same_turn v i (i % 2 == 0))
      ∙ one_filled s misc first n f v i (put_within h m misc first n f within) is.chain_four is.chain_odd_even is.odd_even_off (omega (arith, room))
      ∙ (λ j. with_word_stored s (is_in_map_mask h) ((f + i) % 65536) (word_over h m v j));
}

-- writes one after another are all of them
pub puts_add : (misc first : ℕ) (g : ℕ → ℕ) (k r i : ℕ) (h : HostState) → after_puts misc first g (k + r) i h
    ≡ after_puts misc first g r (i + k) (after_puts misc first g k i h)
puts_add misc first g zero r i h =
    let e : zero + r ≡ r = omega arith in
    let z : i ≡ i + zero = omega arith in
    ap (λ n. after_puts misc first g n i h) e ∙ ap (λ n. after_puts misc first g r n h) z
puts_add misc first g (suc k) r i h =
    let e : suc k + r ≡ suc (k + r) = omega arith in
    let z : i + 1 + k ≡ i + suc k = omega arith in
    ap (λ n. after_puts misc first g n i h) e ∙ puts_add misc first g k r (i + 1) (after_put_if_decoded h misc (first + i) (g i))
    ∙ ap (λ n. after_puts misc first g r n (after_puts misc first g k (i + 1) (after_put_if_decoded h misc (first + i) (g i)))) z

-- what a loop over words keeps
pub words_go_on : (h s r : HostState) (per misc first n f done : ℕ) (g : ℕ → ℕ) (w : ℕ → Four ℕ) → WritesStoreWords per h misc first n f g w → per ≤ n - done →
    done ≤ n
    → done % per ≡ 0 → with_memory h s.memory ≡ s → after_puts misc first g done 0 h ≡ s
    → r ≡ with_word_stored s (is_in_map_mask h) ((f + done) % 65536) (w done)
    → (done + per ≤ n) × ((done + per) % per ≡ 0) × (with_memory h r.memory ≡ r) × (after_puts misc first g (done + per) 0 h ≡ r)
words_go_on h s r per misc first n f done g w words room few whole same put is =
    let left : done + per ≤ n = omega (arith, room, few) in
    let after : HostState = with_word_stored s (is_in_map_mask h) ((f + done) % 65536) (w done) in
    let z : 0 + done ≡ done = omega arith in (
      left,
      words.next done whole,
      subst (λ (x : HostState). with_memory h x.memory ≡ x) (sym is)
          (ap (λ (x : HostState). with_memory x after.memory) same),
      puts_add misc first g done per 0 h ∙ ap (λ (k : ℕ). after_puts misc first g per k (after_puts misc first g done 0 h)) z
          ∙ ap (after_puts misc first g per done) (put ∙ sym same) ∙ words.put s.memory done whole left
          ∙ ap (λ (x : HostState). with_word_stored x (is_in_map_mask h) ((f + done) % 65536) (w done)) same ∙ sym is,
    )

-- the rest of n writes, after those that are done, leaves what all n writes leave
pub puts_rest : (misc first n done : ℕ) (g : ℕ → ℕ) (h s : HostState) → done ≤ n → s ≡ after_puts misc first g done 0 h →
    after_puts misc first g (n - done) done s ≡ after_puts misc first g n 0 h
puts_rest misc first n done g h s few is =
    let z : done ≡ 0 + done = omega arith in
    let all : done + (n - done) ≡ n = omega (arith, few) in
    ap (after_puts misc first g (n - done) done) is ∙ ap (λ (k : ℕ). after_puts misc first g (n - done) k (after_puts misc first g done 0 h)) z
    ∙ sym (puts_add misc first g done (n - done) 0 h) ∙ ap (λ (k : ℕ). after_puts misc first g k 0 h) all

-- what the loop over the writes that are left begins with
pub fill_leaves : (access : MemoryAccess) (bytes others : Four ℕ) (misc first even odd n done : ℕ) (h s : HostState) → IsAccess access h
    → bytes ≡ four_by_plane (λ p. written_byte h even p) → others ≡ four_by_plane (λ p. written_byte h odd p) → done ≤ n → with_memory h s.memory ≡ s
    → s ≡ after_puts misc first (even_or_odd_byte even odd) done 0 h → Turns access bytes others misc first even odd n done s
    (after_puts misc first (even_or_odd_byte even odd) n 0 h)
fill_leaves access bytes others misc first even odd n done h s is be bo few kept put = (
  subst (IsAccess access) kept (access_over access h s.memory h.latches is),
  be ∙ sym (word_over h s.memory even) ∙ ap (λ (x : HostState). four_by_plane (λ p. written_byte x even p)) kept,
  bo ∙ sym (word_over h s.memory odd) ∙ ap (λ (x : HostState). four_by_plane (λ p. written_byte x odd p)) kept,
  puts_rest misc first n done (even_or_odd_byte even odd) h s few put,
)

-- ---- bytes of the caller's

-- a plain write leaves its byte in each plane
plain_byte : (h : HostState) (v p : ℕ) → StoresByteUnchanged h → p < 4 → v < 256 → written_byte h v p ≡ v
plain_byte h v p plain l byte = sym (byte_from_bits v (λ i. written_bit h v p i) byte (λ i li. sym (plain_bit h v p i plain l li)))

plain_over : (h : HostState) (m : Four (List ℕ)) → StoresByteUnchanged h → (let s : HostState = record h { memory = m } in StoresByteUnchanged s)
plain_over h m is = record { mode = is.mode; rotate = is.rotate; function = is.function; own = is.own; mask = is.mask }

pub four_grouped : (h : HostState) (misc first n f : ℕ) (g : ℕ → ℕ) → AreWritesDecoded h misc first n f → FillsByFours h f → StoresByteUnchanged h → ((i : ℕ) → g i < 256) →
    WritesStoreWords 4 h misc first n f g (word_of_byte_group 4 g)
four_grouped h misc first n f g within is plain bytes = record {
  some = omega arith;
  next = λ i e. omega (arith, e);
  put = λ m i e room. let s : HostState = record h { memory = m } in
      let own : (p k : ℕ) → p < 4 → k ≡ i + p → written_byte s (g k) p ≡ g (i + p) =
      λ p k l at. plain_byte s (g k) p (plain_over h m plain) l (bytes k) ∙ ap g at in
      four_put s misc first n f i g (word_of_byte_group 4 g i) (put_within h m misc first n f within) is.chain_four is.in_window e room
      (own 0 i (omega arith) (omega arith)) (own 1 (i + 1) (omega arith) refl) (own 2 (i + 1 + 1) (omega arith) (omega arith))
      (own 3 (i + 1 + 1 + 1) (omega arith) (omega arith));
}

pub pair_grouped : (h : HostState) (misc first n f : ℕ) (g : ℕ → ℕ) → AreWritesDecoded h misc first n f → FillsByPairs h f → StoresByteUnchanged h → ((i : ℕ) → g i < 256) →
    WritesStoreWords 2 h misc first n f g (word_of_byte_group 2 g)
pair_grouped h misc first n f g within is plain bytes = record {
  some = omega arith;
  next = λ i e. omega (arith, e);
  put = λ m i e room. let s : HostState = record h { memory = m } in
      let kept = plain_over h m plain in
      let zero_is : i ≡ i + 0 = omega arith in
      two_put s misc first n f i g (word_of_byte_group 2 g i) (put_within h m misc first n f within) is.chain_four is.chain_odd_even is.odd_even_off is.in_window e room
      (λ p l odd. plain_byte s (g i) p kept l (bytes i) ∙ by_plane (λ q. q % 2 ≡ 0 → g i ≡ of_plane (word_of_byte_group 2 g i) q)
      (λ x. ap g zero_is) (λ x. absurd (cc)) (λ x. ap g zero_is) (λ x. absurd (cc)) p l odd)
      (λ p l odd. plain_byte s (g (i + 1)) p kept l (bytes (i + 1)) ∙ by_plane (λ q. q % 2 ≡ 1 → g (i + 1) ≡ of_plane (word_of_byte_group 2 g i) q)
      (λ x. absurd (cc)) (λ x. refl) (λ x. absurd (cc)) (λ x. refl) p l odd);
}

pub plane_grouped : (h : HostState) (misc first n f : ℕ) (g : ℕ → ℕ) → AreWritesDecoded h misc first n f → AddressPicksNoPlane h → StoresByteUnchanged h → ((i : ℕ) → g i < 256) →
    WritesStoreWords 1 h misc first n f g (word_of_byte_group 1 g)
plane_grouped h misc first n f g within is plain bytes = record {
  some = omega arith;
  next = λ i e. omega (arith, e);
  put = λ m i e room. let s : HostState = record h { memory = m } in
      let kept = plain_over h m plain in
      let zero_is : i ≡ i + 0 = omega arith in
      let own : (p : ℕ) → p < 4 → written_byte s (g i) p ≡ g (i + 0) = λ p l. plain_byte s (g i) p kept l (bytes i) ∙ ap g zero_is in
      one_filled s misc first n f (g i) i (put_within h m misc first n f within) is.chain_four is.chain_odd_even is.odd_even_off (omega (arith, room))
      ∙ (λ j. with_word_stored s (is_in_map_mask h) ((f + i) % 65536) (record {
        plane0 = own 0 (omega arith) j;
        plane1 = own 1 (omega arith) j;
        plane2 = own 2 (omega arith) j;
        plane3 = own 3 (omega arith) j;
      }));
}

pub not_false : (b : Bool) → not b ≡ false → b ≡ true
not_false true e = refl
not_false false e = absurd (cc)

-- what the registers say stays where memory alone changes
pub access_kept : (access : MemoryAccess) (h s : HostState) → IsAccess access h → with_memory h s.memory ≡ s → IsAccess access s
access_kept access h s is kept = subst (IsAccess access) kept (access_over access h s.memory h.latches is)
