-- The table has what a product of the set spreads.
use Rattle.std.proofs.Common.{◌≡◌, ℕ, ◌*◌, ◌%◌, ◌<◌, arith, refl, ap, ◌∙◌, bit_and, ◌==◌, true}
use Rattle.std.specs.Prelude.{slice_index_or}
use Rattle.std.proofs.lemmas.Bool.{agree_below_at, eqb-true}
use Rattle.vga_bits.specs.Words.{plane_bit_in_word}
use Rattle.vga_bits.proofs.WordLemmas.{word_bit_filled}
use Rattle.vga_planes.specs.declared.plane_words.TheConstants.{MASK_OF_PLANE_SET}
use Rattle.vga_planes.proofs.plane_words.mask_of_planes.Goals as goal

filled_test : (s : ℕ) → s < 16 → (slice_index_or MASK_OF_PLANE_SET s 0 == bit_and (s * 2113665) 16843009 * 255) ≡ true
filled_test s few = agree_below_at (λ k. slice_index_or MASK_OF_PLANE_SET k 0 == bit_and (k * 2113665) 16843009 * 255) (λ _. true) 16 s refl few

filled_is : (s : ℕ) → s < 16 → slice_index_or MASK_OF_PLANE_SET s 0 ≡ bit_and (s * 2113665) 16843009 * 255
filled_is s few = eqb-true _ _ (filled_test s few)

pub returns : goal.returns
returns c = λ p i plane within. ap (λ w. plane_bit_in_word w p i) (filled_is (c.args.set % 16) (omega arith)) ∙ word_bit_filled c.args.set p i plane within
