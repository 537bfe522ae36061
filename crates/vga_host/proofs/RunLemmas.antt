-- Runs of writes: what the registers say stays, and a write by what they say.
use Rattle.std.proofs.Common.{Bool, true, false, ◌≡◌, ℕ, suc, ◌+◌, ◌-◌, ◌%◌, ◌<◌, ◌==◌, ◌&&◌, nat_le, nat_lt, IsTrue, refl, sym, ap}
use Rattle.std.proofs.Common.{subst, ◌∙◌, arith, if◌then◌else◌}
use Rattle.std.specs.Prelude.{slice_set, slice_index}
use Rattle.std.proofs.Common.{length, List, ◌≤◌, zero}
use Rattle.std.specs.Prelude.{min, max}
use Rattle.std.proofs.lemmas.Bool.Decides.{nat_tests}
use Rattle.std.proofs.Common.{⊎_elim}
use Rattle.std.proofs.lemmas.Bool.{cases_order, cases_lt}
use Rattle.std.proofs.lemmas.List.{get_or-set_other, get_or-set_same}
use Rattle.vga_bits.specs.Bits.{is_set, byte_of_bits}
use Rattle.vga_bits.specs.Four.{Four, four_by_plane, of_plane}
use Rattle.vga_planes.specs.Planes.{with_bytes_at_offset, bytes_at, byte_at}
use Rattle.vga_host.specs.declared.host.memory.access.MemoryAccess.{MemoryAccess}
use Rattle.vga_host.specs.Host.{HostState}
use Rattle.vga_host.specs.Memory.Address.{is_decoded, decoded_among, window_offset, plane_offset, is_reached, window_start, window_len}
use Rattle.vga_host.specs.Memory.Write.{written_bit, combined_bit, written_byte, after_put}
use Rattle.vga_host.specs.Memory.Read.{loaded, compared_bit, picked_plane, read_bit, read_byte, after_get}
use Rattle.std.specs.Int.{bit_at}
use Rattle.vga_bits.proofs.BitLemmas.{byte_from_bits}
use Rattle.vga_bits.proofs.FourLemmas.{by_plane}
use Rattle.vga_host.specs.Memory.Runs.{after_put_if_decoded, after_put_of_plane_bytes, after_get_if_decoded, byte_read_or_ff, after_move_if_decoded, after_puts, after_gets, after_moves, even_or_odd_byte}
use Rattle.vga_host.specs.Memory.Access.{IsAccess}
use Rattle.vga_host.specs.Graphics.{write_mode, is_read_compare}
use Rattle.vga_host.specs.Memory.Address.{is_memory_enabled}

-- ---- what the registers say stays

access_where : (d : Bool) (access : MemoryAccess) (h : HostState) (misc a v : ℕ) → IsAccess access h → IsAccess access (if d then after_put h a v else h)
access_where true access h misc a v is = record {
  start = is.start;
  len = is.len;
  small = is.small;
  chain_four = is.chain_four;
  chain_odd_even = is.chain_odd_even;
  odd_even_off = is.odd_even_off;
  map_mask = is.map_mask;
  stores_byte = λ e. let p = is.stores_byte e in record { mode = p.mode; rotate = p.rotate; function = p.function; own = p.own; mask = p.mask };
  stores_latches = is.stores_latches;
}
access_where false access h misc a v is = is

-- a write changes nothing that the registers say
pub access_stays : (access : MemoryAccess) (h : HostState) (misc a v : ℕ) → IsAccess access h → IsAccess access (after_put_if_decoded h misc a v)
access_stays access h misc a v is = access_where (is_decoded h misc a) access h misc a v is

-- nor what a byte makes
pub written_after : (bytes : Four ℕ) (h : HostState) (a v b : ℕ) → bytes ≡ four_by_plane (λ p. written_byte h b p) →
    bytes ≡ four_by_plane (λ p. written_byte (after_put h a v) b p)
unfolding written_bit combined_bit
written_after bytes h a v b e = e

written_where : (d : Bool) (bytes : Four ℕ) (h : HostState) (a v b : ℕ) → bytes ≡ four_by_plane (λ p. written_byte h b p) →
    bytes ≡ four_by_plane (λ p. written_byte (if d then after_put h a v else h) b p)
written_where true bytes h a v b e = written_after bytes h a v b e
written_where false bytes h a v b e = e

pub written_stays : (bytes : Four ℕ) (h : HostState) (misc a v b : ℕ) → bytes ≡ four_by_plane (λ p. written_byte h b p) →
    bytes ≡ four_by_plane (λ p. written_byte (after_put_if_decoded h misc a v) b p)
written_stays bytes h misc a v b e = written_where (is_decoded h misc a) bytes h a v b e

-- a loop's step: what the writes from i on leave at h, those from i + 1 on leave at what write i left
pub next_put : (misc first : ℕ) (f : ℕ → ℕ) (i n : ℕ) (h t r : HostState) → i < n → t ≡ after_put_if_decoded h misc (first + i) (f i) →
    after_puts misc first f (n - i) i h ≡ r → after_puts misc first f (n - (i + 1)) (i + 1) t ≡ r
next_put misc first f i n h t r less now before =
    let k : n - i ≡ suc (n - (i + 1)) = omega arith in
    ap (after_puts misc first f (n - (i + 1)) (i + 1)) now ∙ sym (ap (λ k. after_puts misc first f k i h) k) ∙ before

if_true : {A : Type 0} (d : Bool) (x y : A) → IsTrue d → x ≡ (if d then x else y)
if_true true x y is = refl
if_true false x y is = absurd (cc)

-- ---- a cycle at the place of an address

module _ (h : HostState) (misc a w o : ℕ) (decoded : IsTrue (is_decoded h misc a)) (at : w ≡ window_offset h a) (place : o ≡ plane_offset h w) where
  pub there : o ≡ plane_offset h (window_offset h a)
  there = place ∙ ap (plane_offset h) at

  pub planes_after : (set : ℕ) (bytes : Four ℕ) → (reach : (p : ℕ) → p < 4 → is_set set p ≡ is_reached h w p)
      → with_bytes_at_offset h.memory o bytes set
      ≡ four_by_plane (λ p. if is_reached h (window_offset h a) p then slice_set (of_plane h.memory p) (plane_offset h (window_offset h a)) (of_plane bytes p)
      else of_plane h.memory p)
  planes_after set bytes reach =
      let r : (p : ℕ) → p < 4 → is_set set p ≡ is_reached h (window_offset h a) p = λ p less. reach p less ∙ ap (λ x. is_reached h x p) at in
      let r0 = r 0 (omega arith) in
      let r1 = r 1 (omega arith) in
      let r2 = r 2 (omega arith) in
      let r3 = r 3 (omega arith) in
      λ j. record {
        plane0 = if r0 j then slice_set h.memory.plane0 (there j) bytes.plane0 else h.memory.plane0;
        plane1 = if r1 j then slice_set h.memory.plane1 (there j) bytes.plane1 else h.memory.plane1;
        plane2 = if r2 j then slice_set h.memory.plane2 (there j) bytes.plane2 else h.memory.plane2;
        plane3 = if r3 j then slice_set h.memory.plane3 (there j) bytes.plane3 else h.memory.plane3;
      }

  -- four bytes that are stored there are a write of them
  pub put_at : (set : ℕ) (bytes : Four ℕ) → (reach : (p : ℕ) → p < 4 → is_set set p ≡ is_reached h w p)
      → (let after : HostState = record h { memory = with_bytes_at_offset h.memory o bytes set } in after ≡ after_put_of_plane_bytes h misc a bytes)
  put_at set bytes reach = ap (λ m. let after : HostState = record h { memory = m } in after) (planes_after set bytes reach) ∙ if_true (is_decoded h misc a) _ h decoded

  -- four bytes that are loaded from there are a read's
  pub get_at : (let after : HostState = record h { latches = bytes_at h.memory o } in after ≡ after_get_if_decoded h misc a)
  get_at = ap (λ o. let after : HostState = record h { latches = bytes_at h.memory o } in after) there ∙ if_true (is_decoded h misc a) (after_get h a) h decoded

  -- and so is the byte that they give
  pub byte_got : byte_of_bits (λ i. read_bit h w (bytes_at h.memory o) i) ≡ byte_read_or_ff h misc a
  byte_got =
      ap (λ o. byte_of_bits (λ i. read_bit h w (bytes_at h.memory o) i)) there
      ∙ ap (λ x. byte_of_bits (λ i. read_bit h x (loaded h a) i)) at
      ∙ if_true (is_decoded h misc a) (read_byte h a) 0xFF decoded

access_loaded : (d : Bool) (access : MemoryAccess) (h : HostState) (misc a : ℕ) → IsAccess access h → IsAccess access (if d then after_get h a else h)
access_loaded true access h misc a is = record {
  start = is.start;
  len = is.len;
  small = is.small;
  chain_four = is.chain_four;
  chain_odd_even = is.chain_odd_even;
  odd_even_off = is.odd_even_off;
  map_mask = is.map_mask;
  stores_byte = λ e. let p = is.stores_byte e in record { mode = p.mode; rotate = p.rotate; function = p.function; own = p.own; mask = p.mask };
  stores_latches = is.stores_latches;
}
access_loaded false access h misc a is = is

-- nor does a read change what the registers say
pub access_read : (access : MemoryAccess) (h : HostState) (misc a : ℕ) → IsAccess access h → IsAccess access (after_get_if_decoded h misc a)
access_read access h misc a is = access_loaded (is_decoded h misc a) access h misc a is

mode_loaded : (d : Bool) (h : HostState) (a : ℕ) → write_mode (if d then after_get h a else h) ≡ write_mode h
mode_loaded true h a = refl
mode_loaded false h a = refl

-- and least the write mode
pub mode_read : (h : HostState) (misc a : ℕ) → write_mode (after_get_if_decoded h misc a) ≡ write_mode h
mode_read h misc a = mode_loaded (is_decoded h misc a) h a

-- what a loop of moves keeps
pub move_kept : (access : MemoryAccess) (misc from to n i : ℕ) (h t r : HostState) → i < n → t ≡ after_move_if_decoded h misc (from + i) (to + i)
    → (IsAccess access h × (after_moves misc from to (n - i) i h ≡ r)) → (IsAccess access t × (after_moves misc from to (n - (i + 1)) (i + 1) t ≡ r))
move_kept access misc from to n i h t r less now kept =
    let k : n - i ≡ suc (n - (i + 1)) = omega arith in
    let u = after_get_if_decoded h misc (from + i) in (
      subst (IsAccess access) (sym now) (access_stays access u misc (to + i) (byte_read_or_ff h misc (from + i)) (access_read access h misc (from + i) kept.0)),
      ap (after_moves misc from to (n - (i + 1)) (i + 1)) now ∙ sym (ap (λ k. after_moves misc from to k i h) k) ∙ kept.1,
    )

-- what a loop over two bytes in turn keeps
abbrev pub Turns : MemoryAccess → Four ℕ → Four ℕ → ℕ → ℕ → ℕ → ℕ → ℕ → ℕ → HostState → HostState → Type 0
Turns access bytes others misc first even odd n i h r =
    IsAccess access h
    × (bytes ≡ four_by_plane (λ p. written_byte h even p))
    × (others ≡ four_by_plane (λ p. written_byte h odd p))
    × (after_puts misc first (even_or_odd_byte even odd) (n - i) i h ≡ r)

pub turn_kept : (access : MemoryAccess) (bytes others : Four ℕ) (misc first even odd n i v : ℕ) (h t r : HostState) → i < n → v ≡ even_or_odd_byte even odd i →
    t ≡ after_put_if_decoded h misc (first + i) v
    → Turns access bytes others misc first even odd n i h r → Turns access bytes others misc first even odd n (i + 1) t r
turn_kept access bytes others misc first even odd n i v h t r less which now kept =
    let at : t ≡ after_put_if_decoded h misc (first + i) (even_or_odd_byte even odd i) = now ∙ ap (after_put_if_decoded h misc (first + i)) which in (
      subst (IsAccess access) (sym now) (access_stays access h misc (first + i) v kept.0),
      subst (λ x. bytes ≡ four_by_plane (λ p. written_byte x even p)) (sym now) (written_stays bytes h misc (first + i) v even kept.1),
      subst (λ x. others ≡ four_by_plane (λ p. written_byte x odd p)) (sym now) (written_stays others h misc (first + i) v odd kept.2),
      next_put misc first (even_or_odd_byte even odd) i n h t r less at kept.3,
    )

even_first : (m even odd : ℕ) → m ≡ 0 → even ≡ (if m == 0 then even else odd)
even_first m even odd is = sym (ap (λ x. if x == 0 then even else odd) is)

pub even_in_turn : (even odd i : ℕ) → i % 2 ≡ 0 → even ≡ even_or_odd_byte even odd i
even_in_turn even odd i is = even_first (i % 2) even odd is

pub odd_in_turn : (even odd i : ℕ) → (i % 2 ≡ 0 → ⊥) → odd ≡ even_or_odd_byte even odd i
odd_in_turn even odd i is =
    let one : i % 2 ≡ 1 = omega arith in
    sym (ap (λ x. if x == 0 then even else odd) one)

-- ---- reads

-- the host path with other latches
abbrev pub with_latches : HostState → Four ℕ → HostState
with_latches h l = record h { latches = l }

latches_where : (d : Bool) (h : HostState) (a : ℕ) → with_latches h (if d then after_get h a else h).latches ≡ (if d then after_get h a else h)
latches_where true h a = refl
latches_where false h a = refl

-- a read changes the latches alone
pub latches_read : (h s : HostState) (misc a : ℕ) → with_latches h s.latches ≡ s → with_latches h (after_get_if_decoded s misc a).latches ≡ after_get_if_decoded s misc a
latches_read h s misc a kept =
    ap (λ (x : HostState). with_latches x (after_get_if_decoded s misc a).latches) kept ∙ latches_where (is_decoded s misc a) s a

-- and those change no byte that is read
pub byte_over : (h s : HostState) (misc a : ℕ) → with_latches h s.latches ≡ s → byte_read_or_ff s misc a ≡ byte_read_or_ff h misc a
unfolding read_bit
byte_over h s misc a kept = ap (λ (x : HostState). byte_read_or_ff x misc a) (sym kept)

-- a step of a loop of reads
pub next_get : (misc first n i : ℕ) (h t r : HostState) → i < n → t ≡ after_get_if_decoded h misc (first + i) → after_gets misc first (n - i) i h ≡ r →
    after_gets misc first (n - (i + 1)) (i + 1) t ≡ r
next_get misc first n i h t r less now before =
    let k : n - i ≡ suc (n - (i + 1)) = omega arith in
    ap (after_gets misc first (n - (i + 1)) (i + 1)) now ∙ sym (ap (λ k. after_gets misc first k i h) k) ∙ before

-- a byte more that is read
pub byte_set : (bytes : List ℕ) (i k v : ℕ) (g : ℕ → ℕ) → i < length bytes → k < i + 1 → ((j : ℕ) → j < i → slice_index bytes j ≡ g j) → v ≡ g i →
    slice_index (slice_set bytes i v) k ≡ g k
byte_set bytes i k v g within few read is = ⊎_elim
    (λ (here : k ≡ i). ap (slice_index (slice_set bytes i v)) here ∙ get_or-set_same bytes i v 0 within ∙ is ∙ ap g (sym here))
    (⊎_elim
    (λ (before : k < i). get_or-set_other bytes i k v 0 (omega arith) ∙ read k before)
    (λ (past : i < k). absurd (omega arith)))
    (cases_order k i)

-- ---- decoded addresses

pub none_enabled : (h : HostState) (misc first n : ℕ) → is_memory_enabled misc ≡ false → decoded_among h misc first n ≡ 0
unfolding decoded_among
none_enabled h misc first zero off = refl
none_enabled h misc first (suc n) off =
    let s = window_start h in
    let a = first + n in
    (λ j. none_enabled h misc first n off j + (if off j && (nat_le s a && nat_lt a (s + window_len h)) then 1 else 0))

abbrev as_one : Bool → ℕ
as_one d = if d then 1 else 0

inside_one : (s e a : ℕ) → s ≤ a → a < e → as_one (nat_le s a && nat_lt a e) ≡ 1
inside_one s e a low high = grind (arith, nat_tests)

below_none : (s e a : ℕ) → a < s → as_one (nat_le s a && nat_lt a e) ≡ 0
below_none s e a low = grind (arith, nat_tests)

past_none : (s e a : ℕ) → e ≤ a → as_one (nat_le s a && nat_lt a e) ≡ 0
past_none s e a high = grind (arith, nat_tests)

-- one address more
one_more : (s e first n : ℕ) → min (first + n) e - max first s + as_one (nat_le s (first + n) && nat_lt (first + n) e)
    ≡ min (first + suc n) e - max first s
one_more s e first n = ⊎_elim
    (λ (low : first + n < s). ap (λ i. min (first + n) e - max first s + i) (below_none s e (first + n) low) ∙ omega (arith, low))
    (λ (at : s ≤ first + n). ⊎_elim
    (λ (high : first + n < e). ap (λ i. min (first + n) e - max first s + i) (inside_one s e (first + n) at high) ∙ omega (arith, at, high))
    (λ (past : e ≤ first + n). ap (λ i. min (first + n) e - max first s + i) (past_none s e (first + n) past) ∙ omega (arith, past))
    (cases_lt (first + n) e))
    (cases_lt (first + n) s)

-- those among n addresses that are in the window
pub among_window : (h : HostState) (misc first n : ℕ) → is_memory_enabled misc ≡ true →
    decoded_among h misc first n ≡ min (first + n) (window_start h + window_len h) - max first (window_start h)
unfolding decoded_among
among_window h misc first zero on = omega arith
among_window h misc first (suc n) on =
    let s = window_start h in
    let e = window_start h + window_len h in
    let a = first + n in
    (λ j. among_window h misc first n on j + (if on j && (nat_le s a && nat_lt a e) then 1 else 0)) ∙ one_more s e first n

-- the byte that a read in mode 0 of a decoded address answers is the picked plane's
pub byte_there : (h : HostState) (misc a w k o : ℕ) → is_decoded h misc a ≡ true → window_offset h a ≡ w → is_read_compare h ≡ false → k ≡ picked_plane h w
    → k < 4 → o ≡ plane_offset h w → byte_at h.memory k o < 256 → byte_at h.memory k o ≡ byte_read_or_ff h misc a
unfolding read_bit
byte_there h misc a w k o decoded in_window compare picked low at byte =
    let m = h.memory in
    let v = window_offset h a in
    let bytes = bytes_at m (plane_offset h v) in
    let offset : plane_offset h v ≡ o = ap (plane_offset h) in_window ∙ sym at in
    let plane : picked_plane h v ≡ k = ap (picked_plane h) in_window ∙ sym picked in
    let same : of_plane bytes k ≡ byte_at m k o =
    by_plane (λ q. of_plane bytes q ≡ byte_at m q o) (ap (byte_at m 0) offset) (ap (byte_at m 1) offset) (ap (byte_at m 2) offset)
    (ap (byte_at m 3) offset) k low in
    let read : (i : ℕ) → read_bit h v bytes i ≡ bit_at (byte_at m k o) i =
    λ i. (λ j. if compare j then compared_bit h bytes i else bit_at (of_plane bytes (plane j)) i) ∙ ap (λ n. bit_at n i) same in
    byte_from_bits (byte_at m k o) (λ i. read_bit h v bytes i) byte (λ i li. sym (read i))
    ∙ if_true (is_decoded h misc a) (read_byte h a) 0xFF decoded

-- where all of some addresses are decoded, the latches are those of the last read
get_over : (h s : HostState) (misc a : ℕ) → is_decoded h misc a ≡ true → with_latches h s.latches ≡ s → after_get_if_decoded s misc a ≡ after_get_if_decoded h misc a
get_over h s misc a decoded kept = sym (ap (λ (x : HostState). after_get_if_decoded x misc a) kept)
    ∙ (λ j. if decoded j then after_get (with_latches h s.latches) a else with_latches h s.latches)
    ∙ (λ j. if sym decoded j then after_get h a else h)

pub last_get : (misc first n i : ℕ) (h s : HostState) → with_latches h s.latches ≡ s → ((k : ℕ) → i ≤ k → k < i + suc n → is_decoded h misc (first + k) ≡ true) →
    after_gets misc first (suc n) i s ≡ after_get_if_decoded h misc (first + (i + n))
last_get misc first zero i h s kept decoded =
    let z : first + i ≡ first + (i + 0) = omega arith in
    get_over h s misc (first + i) (decoded i (omega arith) (omega arith)) kept ∙ ap (after_get_if_decoded h misc) z
last_get misc first (suc n) i h s kept decoded =
    let z : first + (i + 1 + n) ≡ first + (i + suc n) = omega arith in
    last_get misc first n (i + 1) h (after_get_if_decoded s misc (first + i)) (latches_read h s misc (first + i) kept)
    (λ k low high. decoded k (omega (arith, low)) (omega (arith, high)))
    ∙ ap (after_get_if_decoded h misc) z
