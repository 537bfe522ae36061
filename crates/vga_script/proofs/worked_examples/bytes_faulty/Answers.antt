use Rattle.std.proofs.Common.{◌≡◌, ℕ, List, [], ◌∷◌, get_or, refl, ap, arith, inl, inr}
use Rattle.vga_script.specs.declared.version.Version.{Version}
use Rattle.vga_script.specs.declared.version.Version.TheVariants.{One, Two}
use Rattle.vga_script.specs.Version.{version_byte}
use Rattle.vga_script.specs.Item.{script_of_items}
use Rattle.vga_script.specs.Decoding.{StartsWithRepeat}
use Rattle.vga_script.proofs.ExampleLemmas.{begins}
use Rattle.vga_script.proofs.worked_examples.bytes_faulty.Goals as goal

-- 9 is no version
nine : (version : Version) → 9 ≡ version_byte version → ⊥
nine One e = absurd (omega arith)
nine Two e = absurd (omega arith)

-- and version 1 has no blocks
no_repeats : (bytes : List ℕ) → StartsWithRepeat One bytes → ⊥
no_repeats bytes (allowed, begun) = allowed

pub returns-clause-magic : goal.returns-clause-magic
returns-clause-magic c =
    inr (omega arith, λ rest e. let letter : 0x58 ≡ 0x53 = ap (λ (l : List ℕ). get_or l 3 0) e in absurd (omega arith))

pub returns-clause-short : goal.returns-clause-short
returns-clause-short c = inr (omega arith, inl (refl, refl))

pub returns-clause-version : goal.returns-clause-version
returns-clause-version c = inr (omega arith, (9, [], refl, nine))

pub returns-clause-cut : goal.returns-clause-cut
returns-clause-cut c =
    let rest : List ℕ = 1 ∷ 0xC4 ∷ 0x03 ∷ [] in
    inr (omega arith, inr (script_of_items One [], 5, rest, begins One rest, inl (refl, inl (inl (1, 0xC4 ∷ 0x03 ∷ [], 3, refl, refl, omega arith)))))

pub returns-clause-unknown : goal.returns-clause-unknown
returns-clause-unknown c =
    let rest : List ℕ = 0xFF ∷ [] in
    inr (omega arith, (script_of_items One [], 5, rest, begins One rest, inl (refl, inl (inl (0xFF, [], refl, refl), no_repeats rest))))

pub returns-clause-no_kind : goal.returns-clause-no_kind
returns-clause-no_kind c =
    let rest : List ℕ = 0x0C ∷ [] in
    inr (omega arith, inr (script_of_items One [], 5, rest, begins One rest, inl (refl, inl (inl (0x0C, [], 1, refl, refl, omega arith)))))

pub returns-clause-other_kind : goal.returns-clause-other_kind
returns-clause-other_kind c =
    let rest : List ℕ = 0x0C ∷ 0x07 ∷ [] in
    inr (omega arith, (script_of_items One [], 5, rest, begins One rest, inl (refl, inl (inl (0x0C, 0x07 ∷ [], refl, refl), no_repeats rest))))

pub returns-clause-past_the_end : goal.returns-clause-past_the_end
returns-clause-past_the_end c =
    let rest : List ℕ = 0x0C ∷ 0x04 ∷ 0 ∷ 0xFF ∷ 0xFF ∷ 2 ∷ 0 ∷ [] in
    inr (
      omega arith,
      (
        script_of_items One [],
        5,
        rest,
        begins One rest,
        inl (
          refl,
          inl (
            inr (
              0,
              0xFFFF,
              2,
              [],
              omega arith,
              omega arith,
              refl,
              λ h. let end = h.3 in absurd (omega arith),
            ),
            no_repeats rest,
          ),
        ),
      ),
    )

pub returns-clause-no_repeat : goal.returns-clause-no_repeat
returns-clause-no_repeat c =
    let rest : List ℕ = 0x0D ∷ 1 ∷ 0 ∷ 0x0E ∷ [] in
    inr (omega arith, (script_of_items One [], 5, rest, begins One rest, inl (refl, inl (inl (0x0D, 1 ∷ 0 ∷ 0x0E ∷ [], refl, refl), no_repeats rest))))
