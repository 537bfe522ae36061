-- Planes are written into a slice byte by byte, and read back.
use Rattle.std.proofs.Common.{◌≡◌, ℕ, ◌+◌, ◌<◌, ap, ◌∙◌, sym, arith, inl, inr, List, [], ◌∷◌, ◌++◌, length, map, take, drop}
use Rattle.std.proofs.Common.{append_assoc, length-append}
use Rattle.std.specs.Prelude.{slice_index, slice_set}
use Rattle.std.proofs.lemmas.Bool.{cases_eq}
use Rattle.std.proofs.lemmas.List.{take_at, drop_at, take_more, take_more_set, take_all, ext_get_or, get_or-map, length-map}
use Rattle.std.proofs.lemmas.List.{get_or-set_same, get_or-set_other}
use Rattle.vga_bits.specs.Four.{Four, of_plane}
use Rattle.vga_bits.proofs.FourLemmas.{by_plane}
use Rattle.vga_bits.specs.Saved.{IsPut}
use Rattle.vga_bits.specs.Words.{plane_byte_in_word, plane_bytes_of_word}
use Rattle.vga_planes.specs.Planes.{IsDisplayMemory}
use Rattle.vga_planes.specs.PlaneWords.{planes_of_words}
use Rattle.vga_planes.specs.Saved.{saved_memory, planes_cut_from, memory_from}

-- one byte more of a list
pub one_more : (out old plane : List ℕ) (at i v : ℕ) → take (at + i) out ≡ take at old ++ take i plane → at + i < length out → i < length plane
    → v ≡ slice_index plane i → take (at + (i + 1)) (slice_set out (at + i) v) ≡ take at old ++ take (i + 1) plane
one_more out old plane at i v prefix room within value =
    let place : at + (i + 1) ≡ at + i + 1 = omega arith in
    ap (λ (n : ℕ). take n (slice_set out (at + i) v)) place ∙ take_more_set out (at + i) v room
    ∙ ap (λ (l : List ℕ). l ++ v ∷ []) prefix ∙ ap (λ (x : ℕ). (take at old ++ take i plane) ++ x ∷ []) value
    ∙ append_assoc (take at old) (take i plane) (slice_index plane i ∷ [])
    ∙ ap (λ (l : List ℕ). take at old ++ l) (sym (take_more plane i 0 within))

-- the same from the first byte on
pub one_more_at_first : (out plane : List ℕ) (i v : ℕ) → take i out ≡ take i plane → i < length out → i < length plane → v ≡ slice_index plane i
    → take (i + 1) (slice_set out i v) ≡ take (i + 1) plane
one_more_at_first out plane i v prefix room within value =
    take_more_set out i v room ∙ ap (λ (l : List ℕ). l ++ v ∷ []) prefix ∙ ap (λ (x : ℕ). take i plane ++ x ∷ []) value ∙ sym (take_more plane i 0 within)

-- ---- a plane of words

pub plane_len : (words : List ℕ) (p : ℕ) → p < 4 → length (of_plane (planes_of_words words) p) ≡ length words
plane_len words =
    let all : (p : ℕ) → length (map (plane_byte_in_word p) words) ≡ length words = λ p. length-map words (plane_byte_in_word p) in
    by_plane (λ p. length (of_plane (planes_of_words words) p) ≡ length words) (all 0) (all 1) (all 2) (all 3)

-- byte i of a plane is in word i
pub plane_byte : (words : List ℕ) (i p : ℕ) → p < 4 → i < length words → of_plane (plane_bytes_of_word (slice_index words i)) p ≡ slice_index (of_plane (planes_of_words words) p) i
plane_byte words i p few within =
    let all : (p : ℕ) → plane_byte_in_word p (slice_index words i) ≡ slice_index (map (plane_byte_in_word p) words) i = λ p. sym (get_or-map (plane_byte_in_word p) words i 0 0 within) in
    by_plane (λ p. of_plane (plane_bytes_of_word (slice_index words i)) p ≡ slice_index (of_plane (planes_of_words words) p) i) (all 0) (all 1) (all 2) (all 3) p few

-- all bytes of a list, and none after them
pub all_put : (out old plane : List ℕ) (at n : ℕ) → length plane ≡ n → take (at + n) out ≡ take at old ++ take n plane
    → drop (at + n) out ≡ drop (at + n) old → IsPut old out at (at + n) plane
all_put out old plane at n size prefix back = record {
  end = omega (arith, size);
  prefix = prefix ∙ ap (λ (l : List ℕ). take at old ++ l) (take_all n plane (omega (arith, size)));
  back = back;
}

-- the first n words have the bytes of their places
pub AreJoined : List ℕ → Four (List ℕ) → ℕ → Type 0
AreJoined words planes n = (k : ℕ) → k < n → plane_bytes_of_word (slice_index words k) ≡ record {
  plane0 = slice_index planes.plane0 k;
  plane1 = slice_index planes.plane1 k;
  plane2 = slice_index planes.plane2 k;
  plane3 = slice_index planes.plane3 k;
}

pub none_joined : (words : List ℕ) (planes : Four (List ℕ)) → AreJoined words planes 0
unfolding AreJoined
none_joined words planes = λ k below. absurd (omega arith)

pub one_joined : (words : List ℕ) (planes : Four (List ℕ)) (n w : ℕ) → n < length words → AreJoined words planes n
    → plane_bytes_of_word w ≡ record {
      plane0 = slice_index planes.plane0 n;
      plane1 = slice_index planes.plane1 n;
      plane2 = slice_index planes.plane2 n;
      plane3 = slice_index planes.plane3 n;
    } → AreJoined (slice_set words n w) planes (n + 1)
unfolding AreJoined
one_joined words planes n w within before here = λ k below. elim (cases_eq k n) [
  | inl same ↦ ap (λ (i : ℕ). plane_bytes_of_word (slice_index (slice_set words n w) i)) same ∙ ap plane_bytes_of_word (get_or-set_same words n w 0 within) ∙ here
      ∙ ap (λ (i : ℕ). record {
        plane0 = slice_index planes.plane0 i;
        plane1 = slice_index planes.plane1 i;
        plane2 = slice_index planes.plane2 i;
        plane3 = slice_index planes.plane3 i;
      }) (sym same)
  | inr other ↦ ap plane_bytes_of_word (get_or-set_other words n k w 0 other) ∙ before k (omega arith)
]

plane_joined : (words plane : List ℕ) (p : ℕ) → length plane ≡ length words
    → ((k : ℕ) → k < length words → plane_byte_in_word p (slice_index words k) ≡ slice_index plane k) → map (plane_byte_in_word p) words ≡ plane
plane_joined words plane p size each =
    ext_get_or 0 (map (plane_byte_in_word p) words) plane (length-map words (plane_byte_in_word p) ∙ sym size)
    (λ i within. let inside : i < length words = omega (arith, within, length-map words (plane_byte_in_word p)) in
    get_or-map (plane_byte_in_word p) words i 0 0 inside ∙ each i inside)

pub all_joined : (words : List ℕ) (planes : Four (List ℕ)) → length planes.plane0 ≡ length words → length planes.plane1 ≡ length words
    → length planes.plane2 ≡ length words → length planes.plane3 ≡ length words → AreJoined words planes (length words) → planes_of_words words ≡ planes
unfolding AreJoined
all_joined words planes len0 len1 len2 len3 each =
    let e0 = plane_joined words planes.plane0 0 len0 (λ k below. ap (λ (f : Four ℕ). f.plane0) (each k below)) in
    let e1 = plane_joined words planes.plane1 1 len1 (λ k below. ap (λ (f : Four ℕ). f.plane1) (each k below)) in
    let e2 = plane_joined words planes.plane2 2 len2 (λ k below. ap (λ (f : Four ℕ). f.plane2) (each k below)) in
    let e3 = plane_joined words planes.plane3 3 len3 (λ k below. ap (λ (f : Four ℕ). f.plane3) (each k below)) in
    λ j. record { plane0 = e0 j; plane1 = e1 j; plane2 = e2 j; plane3 = e3 j }

-- ---- four planes and their bytes, over any size, so that no list of 65,536 is ever computed

module _ (n : ℕ) (planes : Four (List ℕ)) (len0 : length planes.plane0 ≡ n) (len1 : length planes.plane1 ≡ n) (len2 : length planes.plane2 ≡ n) where
  plane0_past : drop n (saved_memory planes) ≡ planes.plane1 ++ (planes.plane2 ++ planes.plane3)
  unfolding saved_memory
  plane0_past = drop_at planes.plane0 (planes.plane1 ++ (planes.plane2 ++ planes.plane3)) n len0

  plane1_past : drop n (drop n (saved_memory planes)) ≡ planes.plane2 ++ planes.plane3
  plane1_past = ap (drop n) plane0_past ∙ drop_at planes.plane1 (planes.plane2 ++ planes.plane3) n len1

  planes_are_back : planes_cut_from n (saved_memory planes) ≡ planes
  unfolding saved_memory
  planes_are_back =
      let e0 = take_at planes.plane0 (planes.plane1 ++ (planes.plane2 ++ planes.plane3)) n len0 in
      let e1 = ap (take n) plane0_past ∙ take_at planes.plane1 (planes.plane2 ++ planes.plane3) n len1 in
      let e2 = ap (take n) plane1_past ∙ take_at planes.plane2 planes.plane3 n len2 in
      let e3 = ap (drop n) plane1_past ∙ drop_at planes.plane2 planes.plane3 n len2 in
      λ j. record { plane0 = e0 j; plane1 = e1 j; plane2 = e2 j; plane3 = e3 j }

pub memory_is_back : (planes : Four (List ℕ)) → IsDisplayMemory planes → memory_from (saved_memory planes) ≡ planes
unfolding memory_from
memory_is_back planes is = planes_are_back 65536 planes (is.size 0 (omega arith)) (is.size 1 (omega arith)) (is.size 2 (omega arith))

pub memory_len : (planes : Four (List ℕ)) → IsDisplayMemory planes → length (saved_memory planes) ≡ 262144
unfolding saved_memory
memory_len planes is = omega (
  arith,
  is.size 0 (omega arith),
  is.size 1 (omega arith),
  is.size 2 (omega arith),
  is.size 3 (omega arith),
  length-append planes.plane0 (planes.plane1 ++ (planes.plane2 ++ planes.plane3)),
  length-append planes.plane1 (planes.plane2 ++ planes.plane3),
  length-append planes.plane2 planes.plane3,
)
