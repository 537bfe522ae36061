-- Bytes that are the same, and words of dots that are the same.
use Rattle.std.proofs.Common.{◌≡◌, ◌+◌, ◌-◌, ◌*◌, ◌<◌, ◌≤◌, ◌∙◌, ℕ, List, ap, sym, arith, ⊎_elim}
use Rattle.std.specs.Prelude.{slice_index, bit_or}
use Rattle.std.proofs.lemmas.Bool.{cases_lt}
use Rattle.vga_c.specs.Forms.{form_word, rgb_word_of_dot, widened_to_eight_bits}
use Rattle.vga_c.specs.declared.forms.Form.{Form}

-- n bytes are the same, from one place and from another
abbrev pub AreSame : List ℕ → ℕ → ℕ → ℕ → Type 0
AreSame bytes at other n = (k : ℕ) → k < n → slice_index bytes (at + k) ≡ slice_index bytes (other + k)

-- if a number of bytes are the same, and so are those from a place among them on, then all are
pub same_after_more : (bytes : List ℕ) (at other n from m : ℕ) → from ≤ n → AreSame bytes at other n → AreSame bytes (at + from) (other + from) m
    → AreSame bytes at other (from + m)
same_after_more bytes at other n from m among so_far more k few = ⊎_elim (so_far k)
    (λ (past : n ≤ k). ap (slice_index bytes) (omega (arith, past, among)) ∙ more (k - from) (omega (arith, few, past, among)) ∙ ap (slice_index bytes) (omega (arith, past, among)))
    (cases_lt k n)

module _ (bytes : List ℕ) (f g d width : ℕ) (within : d < width) (same : AreSame bytes (3 * f) (3 * g) (3 * width)) where
  component : (j : ℕ) → j < 3 → slice_index bytes (3 * (f + d) + j) ≡ slice_index bytes (3 * (g + d) + j)
  component j small = ap (slice_index bytes) (omega arith) ∙ same (3 * d + j) (omega (arith, within, small)) ∙ ap (slice_index bytes) (omega arith)

  red : slice_index bytes (3 * (f + d)) ≡ slice_index bytes (3 * (g + d))
  red = ap (slice_index bytes) (omega arith) ∙ component 0 (omega arith) ∙ ap (slice_index bytes) (omega arith)

  same_word : rgb_word_of_dot bytes (f + d) ≡ rgb_word_of_dot bytes (g + d)
  same_word = λ i. 0x1_0000 * widened_to_eight_bits (red i)
      + (0x100 * widened_to_eight_bits (component 1 (omega arith) i) + widened_to_eight_bits (component 2 (omega arith) i))

-- lines of the same dots have the same words
pub same_form_word : (form : Form) (width : ℕ) (bytes : List ℕ) (x y z f g : ℕ) → f ≡ width * (form.down * y) → g ≡ width * (form.down * z)
    → form.across * x < width → AreSame bytes (3 * f) (3 * g) (3 * width) → form_word form width bytes x z ≡ form_word form width bytes x y
same_form_word form width bytes x y z f g is_f is_g within same =
    ap (bit_or form.above) (ap (λ n. rgb_word_of_dot bytes (n + form.across * x)) (sym is_g)
    ∙ sym (same_word bytes f g (form.across * x) width within same)
    ∙ ap (λ n. rgb_word_of_dot bytes (n + form.across * x)) is_f)

-- where the row before begins
pub row_before : (pitch y : ℕ) → 0 < y → pitch * y - pitch ≡ pitch * (y - 1)
row_before pitch y some = omega (arith, ap (λ n. pitch * n) same, mul-add pitch (y - 1))
  where
    same : y ≡ (y - 1) + 1
    same = omega (arith, some)

    mul-add : (p n : ℕ) → p * (n + 1) ≡ p * n + p
    mul-add p n = omega arith
