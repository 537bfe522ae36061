-- One thing for each of the four planes of display memory.
use Rattle.std.specs.Prelude.{ℕ, zero, suc}

-- one thing of type A for each plane
pub record Four (A : Type 0) : Type 0 where
  pub plane0 : A
  pub plane1 : A
  pub plane2 : A
  pub plane3 : A

-- what f gives for each plane
abbrev pub four_by_plane : {A : Type 0} → (ℕ → A) → Four A
four_by_plane f = record { plane0 = f 0; plane1 = f 1; plane2 = f 2; plane3 = f 3 }

-- the thing for plane p, below 4
abbrev pub of_plane : {A : Type 0} → Four A → ℕ → A
of_plane x zero = x.plane0
of_plane x (suc zero) = x.plane1
of_plane x (suc (suc zero)) = x.plane2
of_plane x (suc (suc (suc p))) = x.plane3
