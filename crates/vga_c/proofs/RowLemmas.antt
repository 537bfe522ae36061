-- The rows of a picture, each written after the one before, in any form.
use Rattle.std.proofs.Common.{◌≡◌, ◌+◌, ◌-◌, ◌*◌, ◌<◌, ◌≤◌, ◌⊎◌, inl, inr, ◌∙◌, ℕ, List, length, sym, ap, subst, arith, eq-or-lt_of_le}
use Rattle.std.proofs.Math.Nat.{mul-div-le, mul-le-mul_left}
use Rattle.std.proofs.lemmas.Nat.{mul-add-lt}
use Rattle.std.specs.Prelude.{slice_index}
use Rattle.std.specs.Int.Bits.{or_zero_l}
use Rattle.vga_c.specs.Forms.{AreRowsOfWords, IsForm, div_ceil, form_word, rgb_word_of_dot}
use Rattle.vga_c.specs.declared.forms.Form.{Form}

-- a place of an earlier row is before the row
before_row : (p x y z : ℕ) → x < p → z < y → p * z + x < p * y
before_row p x y z within earlier = omega (arith, mul-add-lt z p x y earlier within)

-- a row up to row y is that row, or before it
row_or_earlier : (y z : ℕ) → z < y + 1 → (z ≡ y) ⊎ (z < y)
row_or_earlier y z within = eq-or-lt_of_le (omega (arith, within))

module _ (w y p : ℕ) (word : ℕ → ℕ → ℕ) (old mid new : List ℕ) (fits : w ≤ p) (so_far : AreRowsOfWords w y p word old mid)
    (words : (x : ℕ) → x < w → slice_index new (p * y + x) ≡ word x y)
    (before : (i : ℕ) → i < p * y → slice_index new i ≡ slice_index mid i)
    (behind : (i : ℕ) → p * y + w ≤ i → slice_index new i ≡ slice_index mid i) where
  word_of : (x z : ℕ) → x < w → (z ≡ y) ⊎ (z < y) → slice_index new (p * z + x) ≡ word x z
  word_of x z within (inl is) = subst (λ (r : ℕ). slice_index new (p * r + x) ≡ word x r) (sym is) (words x within)
  word_of x z within (inr earlier) =
      before (p * z + x) (before_row p x y z (omega (arith, within, fits)) earlier) ∙ so_far.words x z within earlier

  beside_of : (x z : ℕ) → w ≤ x → x < p → (z ≡ y) ⊎ (z < y) → slice_index new (p * z + x) ≡ slice_index old (p * z + x)
  beside_of x z past within (inl is) =
      subst (λ (r : ℕ). slice_index new (p * r + x) ≡ slice_index old (p * r + x)) (sym is)
      (behind (p * y + x) (omega (arith, past)) ∙ so_far.behind (p * y + x) (omega arith))
  beside_of x z past within (inr earlier) =
      before (p * z + x) (before_row p x y z within earlier) ∙ so_far.beside x z past within earlier

  -- with one row more, what is written is the picture with one row more
  pub rows_after_another : length new ≡ length mid → AreRowsOfWords w (y + 1) p word old new
  rows_after_another size = record {
    words = λ x z a b. word_of x z a (row_or_earlier y z b);
    beside = λ x z a b c. beside_of x z a b (row_or_earlier y z c);
    behind = λ i a. behind i (omega (arith, a, fits)) ∙ so_far.behind i (omega (arith, a));
    size = size ∙ so_far.size;
  }

-- ---- every n-th dot of every m-th line

-- the dot that is taken is one of those that there are
pub every_below : (m n i : ℕ) → 0 < m → i < div_ceil n m → m * i < n
every_below m n i some within =
    omega (arith, mul-add-lt i m (m - 1) (div_ceil n m) within (omega (arith, some)), mul-div-le (n + (m - 1)) m)

-- the three bytes of a dot that is taken are bytes of the picture
pub dot_within : (width height : ℕ) (form : Form) → IsForm form → (x y : ℕ) → x < div_ceil width form.across → y < div_ceil height form.down →
    3 * (width * (form.down * y) + form.across * x) + 2 < 3 * (width * height)
dot_within width height form is x y a b =
    omega (
      arith,
      mul-add-lt (form.down * y) width (form.across * x) height (every_below form.down height y is.some_down b)
          (every_below form.across width x is.some_across a),
    )

-- the line of a row is one of the picture's
pub line_within : (width height : ℕ) (form : Form) → IsForm form → (y : ℕ) → y < div_ceil height form.down →
    3 * (width * (form.down * y + 1)) ≤ 3 * (width * height)
line_within width height form is y b =
    let below : form.down * y + 1 ≤ height = omega (arith, every_below form.down height y is.some_down b) in
    omega (arith, mul-le-mul_left width below)

-- ---- each dot of each line

every_one : (n : ℕ) → div_ceil n 1 ≡ n
every_one n = omega arith

abbrev every_dot : Form
every_dot = record { across = 1; down = 1; above = 0 }

every_dot_word : (w : ℕ) (bytes : List ℕ) (x y : ℕ) → form_word every_dot w bytes x y ≡ rgb_word_of_dot bytes (w * y + x)
every_dot_word w bytes x y = or_zero_l (rgb_word_of_dot bytes (w * (1 * y) + 1 * x)) ∙ ap (rgb_word_of_dot bytes) (ap (λ z. w * z + 1 * x) one ∙ omega arith)
  where
    one : 1 * y ≡ y
    one = omega arith

pub every_dot_rows : (w h p : ℕ) (bytes old new : List ℕ) → AreRowsOfWords (div_ceil w 1) (div_ceil h 1) p (form_word every_dot w bytes) old new →
    AreRowsOfWords w h p (λ x y. rgb_word_of_dot bytes (w * y + x)) old new
every_dot_rows w h p bytes old new rows =
    let sized : AreRowsOfWords w h p (form_word every_dot w bytes) old new =
    subst (λ n. AreRowsOfWords n h p (form_word every_dot w bytes) old new) (every_one w)
    (subst (λ n. AreRowsOfWords (div_ceil w 1) n p (form_word every_dot w bytes) old new) (every_one h) rows) in
    record {
      words = λ x y a b. sized.words x y a b ∙ every_dot_word w bytes x y;
      beside = sized.beside;
      behind = sized.behind;
      size = sized.size;
    }
