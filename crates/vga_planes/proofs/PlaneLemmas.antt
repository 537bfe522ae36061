-- Planes in words.
use Rattle.std.proofs.Common.{Bool, true, false, ◌≡◌, ℕ, zero, suc, ◌<◌, arith, refl, sym, ap, ◌∙◌, ◌==◌, if◌then◌else◌, cond, List, [], ◌∷◌, length, map, set}
use Rattle.std.proofs.Common.{get_or, replicate}
use Rattle.std.specs.Prelude.{slice_set}
use Rattle.std.specs.Int.{bit_at}
use Rattle.std.proofs.lemmas.Nat.Bits.{bit_at-lt}
use Rattle.std.proofs.lemmas.List.{get_or-map, length-map, map-set, set-get_or}
use Rattle.vga_bits.specs.Bits.{is_set}
use Rattle.vga_bits.specs.Bytes.{zeros}
use Rattle.vga_bits.specs.Four.{Four, four_by_plane, of_plane}
use Rattle.vga_bits.specs.Words.{plane_byte_in_word, plane_bytes_of_word, plane_bit_in_word}
use Rattle.vga_bits.proofs.BitLemmas.{byte_from_bits}
use Rattle.vga_bits.proofs.FourLemmas.{by_plane}
use Rattle.vga_bits.proofs.WordLemmas.{byte_below, word_bit_byte}
use Rattle.vga_planes.specs.Planes.{byte_at, with_bytes_at_offset, zero_planes, IsDisplayMemory}
use Rattle.vga_planes.specs.PlaneWords.{planes_of_words}

read_below : (p : ℕ) (ws : List ℕ) (i : ℕ) → get_or (map (plane_byte_in_word p) ws) i 0 < 256
read_below p [] i = omega arith
read_below p (w ∷ ws) zero = byte_below p w
read_below p (w ∷ ws) (suc i) = read_below p ws i

-- planes in 65,536 words are a memory
pub words_are_memory : (ws : List ℕ) → length ws ≡ 65536 → IsDisplayMemory (planes_of_words ws)
words_are_memory ws size =
    let all : (p : ℕ) → length (map (plane_byte_in_word p) ws) ≡ 65536 = λ p. length-map ws (plane_byte_in_word p) ∙ size in
    record {
      size = by_plane (λ p. length (of_plane (planes_of_words ws) p) ≡ 65536) (all 0) (all 1) (all 2) (all 3);
      bytes = by_plane (λ p. (i : ℕ) → byte_at (planes_of_words ws) p i < 256) (read_below 0 ws) (read_below 1 ws) (read_below 2 ws) (read_below 3 ws);
    }

map_zeros : (f : ℕ → ℕ) (n : ℕ) → f 0 ≡ 0 → map f (replicate n 0) ≡ replicate n 0
map_zeros f zero e = refl
map_zeros f (suc n) e = ap (λ x. x ∷ map f (replicate n 0)) e ∙ ap (λ xs. 0 ∷ xs) (map_zeros f n e)

blank_plane : (p n : ℕ) → plane_byte_in_word p 0 ≡ 0 → map (plane_byte_in_word p) (zeros n) ≡ zeros n
unfolding zeros
blank_plane p n e = map_zeros (plane_byte_in_word p) n e

-- over any size, so that no list of 65,536 is ever computed
blank_all : (n : ℕ) → planes_of_words (zeros n) ≡ four_by_plane (λ p. zeros n)
blank_all n =
    let e0 = blank_plane 0 n refl in
    let e1 = blank_plane 1 n refl in
    let e2 = blank_plane 2 n refl in
    let e3 = blank_plane 3 n refl in
    λ j. record { plane0 = e0 j; plane1 = e1 j; plane2 = e2 j; plane3 = e3 j }

pub blank_planes : (ws : List ℕ) → ws ≡ zeros 65536 → planes_of_words ws ≡ zero_planes
blank_planes ws e = ap planes_of_words e ∙ blank_all 65536

same_byte : (v w p : ℕ) → ((i : ℕ) → i < 8 → plane_bit_in_word v p i ≡ plane_bit_in_word w p i) → plane_byte_in_word p v ≡ plane_byte_in_word p w
same_byte v w p bits =
    byte_from_bits (plane_byte_in_word p v) (bit_at (plane_byte_in_word p w)) (byte_below p v) (λ i h. sym (word_bit_byte v p i h) ∙ bits i h ∙ word_bit_byte w p i h)
    ∙ sym (byte_from_bits (plane_byte_in_word p w) (bit_at (plane_byte_in_word p w)) (byte_below p w) (λ i h. refl))

byte_chosen : (b : ℕ) → b < 2 → (r source old p : ℕ) → ((i : ℕ) → i < 8 → plane_bit_in_word r p i ≡ (if b == 0 then plane_bit_in_word old p i else plane_bit_in_word source p i))
    → plane_byte_in_word p r ≡ cond (b == 1) (plane_byte_in_word p source) (plane_byte_in_word p old)
byte_chosen zero bit r source old p bits = same_byte r old p bits
byte_chosen (suc zero) bit r source old p bits = same_byte r source p bits
byte_chosen (suc (suc b)) bit r source old p bits = absurd (omega arith)

set_or : (b : Bool) (xs : List ℕ) (o v : ℕ) → set xs o (cond b v (get_or xs o 0)) ≡ cond b (set xs o v) xs
set_or true xs o v = refl
set_or false xs o v = set-get_or xs o 0

module _ (ws : List ℕ) (o old r source s : ℕ) (within : o < length ws) (was : old ≡ get_or ws o 0)
    (bits : (p i : ℕ) → p < 4 → i < 8 → plane_bit_in_word r p i ≡ (if bit_at s p == 0 then plane_bit_in_word old p i else plane_bit_in_word source p i)) where
  plane_stored : (p : ℕ) → p < 4 → map (plane_byte_in_word p) (set ws o r) ≡ (if is_set s p then slice_set (map (plane_byte_in_word p) ws) o (plane_byte_in_word p source)
      else map (plane_byte_in_word p) ws)
  plane_stored p plane =
      map-set (plane_byte_in_word p) ws o r
      ∙ ap (set (map (plane_byte_in_word p) ws) o) (byte_chosen (bit_at s p) (bit_at-lt s p) r source old p (λ i h. bits p i plane h)
      ∙ ap (λ b. cond (is_set s p) (plane_byte_in_word p source) b) (ap (plane_byte_in_word p) was ∙ sym (get_or-map (plane_byte_in_word p) ws o 0 0 within)))
      ∙ set_or (is_set s p) (map (plane_byte_in_word p) ws) o (plane_byte_in_word p source)

  -- one word whose bits are those of the source in the planes of a set, and as they were in the others
  pub planes_stored : (latch : Four ℕ) → plane_bytes_of_word source ≡ latch → planes_of_words (set ws o r) ≡ with_bytes_at_offset (planes_of_words ws) o latch s
  planes_stored latch given =
      let e0 = plane_stored 0 (omega arith) in
      let e1 = plane_stored 1 (omega arith) in
      let e2 = plane_stored 2 (omega arith) in
      let e3 = plane_stored 3 (omega arith) in
      (λ j. record { plane0 = e0 j; plane1 = e1 j; plane2 = e2 j; plane3 = e3 j }) ∙ ap (λ l. with_bytes_at_offset (planes_of_words ws) o l s) given
