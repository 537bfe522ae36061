-- What holds of each of the four planes.
use Rattle.std.proofs.Common.{◌≡◌, ℕ, zero, suc, ◌<◌, refl, arith}
use Rattle.vga_bits.specs.Four.{Four, of_plane}

-- a fact of planes 0 to 3 is one of each plane below 4
pub by_plane : (P : ℕ → Type 0) → P 0 → P 1 → P 2 → P 3 → (p : ℕ) → p < 4 → P p
by_plane P a b c d zero below = a
by_plane P a b c d (suc zero) below = b
by_plane P a b c d (suc (suc zero)) below = c
by_plane P a b c d (suc (suc (suc zero))) below = d
by_plane P a b c d (suc (suc (suc (suc p)))) below = absurd (omega arith)

-- two that agree in each plane are the same
pub same_four : {A : Type 0} (x y : Four A) → ((p : ℕ) → p < 4 → of_plane x p ≡ of_plane y p) → x ≡ y
same_four x y agree =
    let plane0 = agree 0 (omega arith) in
    let plane1 = agree 1 (omega arith) in
    let plane2 = agree 2 (omega arith) in
    let plane3 = agree 3 (omega arith) in
    rw (plane0, plane1, plane2, plane3) refl
