-- Searching for a glyph, step by step.
use Rattle.std.proofs.Common.{◌≡◌, ◌∙◌, ℕ, suc, ◌+◌, ◌-◌, ◌<◌, ◌&&◌, Bool, true, false, if◌then◌else◌, sym, ap, arith}
use Rattle.bios_services.specs.Glyphs.{holds_for_all, first_passing_number}

-- a test of some numbers goes on if it holds for the first
pub next_of_all : (test : ℕ → Bool) (i e : ℕ) (r : Bool) → i < e → test i ≡ true → holds_for_all test (e - i) i ≡ r → holds_for_all test (e - (i + 1)) (i + 1) ≡ r
next_of_all test i e r h holds before =
    let n : e - i ≡ suc (e - (i + 1)) = omega arith in
    sym (ap (λ k. holds_for_all test k i) n ∙ ap (λ b. b && holds_for_all test (e - (i + 1)) (i + 1)) holds) ∙ before

-- a search goes on if the test fails
pub next_first : (test : ℕ → Bool) (i e r : ℕ) → i < e → test i ≡ false → first_passing_number test (e - i) i ≡ r → first_passing_number test (e - (i + 1)) (i + 1) ≡ r
next_first test i e r h fails before =
    let n : e - i ≡ suc (e - (i + 1)) = omega arith in
    sym (ap (λ k. first_passing_number test k i) n ∙ ap (λ b. if b then i else first_passing_number test (e - (i + 1)) (i + 1)) fails) ∙ before

-- and ends if it holds
pub found_first : (test : ℕ → Bool) (i e r : ℕ) → i < e → test i ≡ true → first_passing_number test (e - i) i ≡ r → i ≡ r
found_first test i e r h holds before =
    let n : e - i ≡ suc (e - (i + 1)) = omega arith in
    sym (ap (λ k. first_passing_number test k i) n ∙ ap (λ b. if b then i else first_passing_number test (e - (i + 1)) (i + 1)) holds) ∙ before
