-- Colours of eight bits a component, of which three are made at once.
use Rattle.std.proofs.Common.{◌≡◌, ◌+◌, ◌*◌, ◌/◌, ◌%◌, ◌^◌, ◌<◌, ◌∙◌, ℕ, ap, ap₂, arith, bit_and}
use Rattle.std.proofs.lemmas.Nat.{and_block, and_mask}

low_half : (n : ℕ) → bit_and n 15 ≡ n % 16
low_half n = and_mask n 4

-- of a byte above half a byte, and of what stands after it
two_halves : (a n b : ℕ) → a < 16 → n < 16 → b < 16
    → bit_and (a * 2 ^ 8 + (16 * n + b)) (15 * 2 ^ 8 + 15) ≡ 256 * a + b
two_halves a n b a_fits n_fits b_fits =
    and_block 8 a 15 (16 * n + b) 15 (omega (arith, n_fits, b_fits)) (omega arith)
    ∙ ap₂ (λ x y. x * 2 ^ 8 + y) (low_half a) (low_half (16 * n + b)) ∙ omega (arith, a_fits, b_fits)

-- the high halves of three bytes, each in its place
pub high_halves : (r g b : ℕ) → r < 256 → g < 256 → b < 256
    → bit_and ((65536 * r + (256 * g + b)) / 16) 986895 ≡ 65536 * (r / 16) + (256 * (g / 16) + b / 16)
high_halves r g b r_fits g_fits b_fits =
    ap (λ n. bit_and n 986895) whole
    ∙ and_block 8 (16 * r + g / 16) 3855 (16 * (g % 16) + b / 16) 15 (omega (arith, b_fits)) (omega arith)
    ∙ ap₂ (λ x y. x * 2 ^ 8 + y) above below
    ∙ omega arith
  where
    whole : (65536 * r + (256 * g + b)) / 16 ≡ (16 * r + g / 16) * 2 ^ 8 + (16 * (g % 16) + b / 16)
    whole = omega arith

    above : bit_and (16 * r + g / 16) 3855 ≡ 256 * (r / 16) + g / 16
    above = ap (λ n. bit_and n 3855) (omega arith)
        ∙ two_halves (r / 16) (r % 16) (g / 16) (omega (arith, r_fits)) (omega arith) (omega (arith, g_fits))

    below : bit_and (16 * (g % 16) + b / 16) 15 ≡ b / 16
    below = low_half (16 * (g % 16) + b / 16) ∙ omega (arith, b_fits)
