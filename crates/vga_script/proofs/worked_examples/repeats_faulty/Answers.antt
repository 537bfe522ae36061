use Rattle.std.proofs.Common.{◌≡◌, ℕ, List, [], ◌∷◌, ◌++◌, get_or, refl, ap, arith, inl, inr}
use Rattle.vga_script.specs.declared.step.Step.TheVariants.{Out}
use Rattle.vga_script.specs.Item.{Repeated, script_of_items}
use Rattle.vga_script.specs.declared.version.Version.TheVariants.{Two}
use Rattle.vga_script.specs.Examples.{frames, frame_bytes}
use Rattle.vga_script.proofs.ExampleLemmas.{begins, few_bytes, frames_start, many_frames}
use Rattle.vga_script.proofs.worked_examples.repeats_faulty.Goals as goal

-- two lists of bytes that begin differently
differ : (a b : ℕ) (x y : List ℕ) → a ∷ x ≡ b ∷ y → a ≡ b
differ a b x y e = ap (λ (l : List ℕ). get_or l 0 0) e

pub returns-clause-open : goal.returns-clause-open
returns-clause-open c =
    inr (
      omega arith,
      inr (
        script_of_items Two [],
        5,
        0x0D ∷ 3 ∷ 0 ∷ 1 ∷ 0xC4 ∷ 0x03 ∷ 0x02 ∷ [],
        begins Two (0x0D ∷ 3 ∷ 0 ∷ 1 ∷ 0xC4 ∷ 0x03 ∷ 0x02 ∷ []),
        inl (
          refl,
          inr (
            7,
            record {
              count = 3;
              body = 1 ∷ 0xC4 ∷ 0x03 ∷ 0x02 ∷ [];
              len = 1;
              allowed = tt;
              some = omega arith;
              small = omega arith;
              whole = refl;
              good = record {
                prefix = 1 ∷ 0xC4 ∷ 0x03 ∷ 0x02 ∷ [];
                steps = Out 0x3C4 2 ∷ [];
                whole = refl;
                good = ([], ((omega arith, omega arith), refl), refl);
                count = refl;
              };
              distance_is = refl;
            },
          ),
        ),
      ),
    )

pub returns-clause-no_count : goal.returns-clause-no_count
returns-clause-no_count c =
    inr (omega arith, inr (script_of_items Two [], 5, 0x0D ∷ 3 ∷ [], begins Two (0x0D ∷ 3 ∷ []), inl (refl, inl (inr (tt, (3 ∷ [], refl, omega arith))))))

pub returns-clause-zero : goal.returns-clause-zero
returns-clause-zero c =
    inr (omega arith, (script_of_items Two [], 5, 0x0D ∷ 0 ∷ 0 ∷ 0x0E ∷ [], begins Two (0x0D ∷ 0 ∷ 0 ∷ 0x0E ∷ []), inl (refl, inr (tt, (0x0E ∷ [], refl)))))

pub returns-clause-end : goal.returns-clause-end
returns-clause-end c =
    inr (
      omega arith,
      (
        script_of_items Two [],
        5,
        0x0E ∷ [],
        begins Two (0x0E ∷ []),
        inl (refl, inl (inl (0x0E, [], refl, refl), λ h. let first = differ 0x0E 0x0D [] h.1.0 h.1.1 in absurd (omega arith))),
      ),
    )

pub returns-clause-inner : goal.returns-clause-inner
returns-clause-inner c =
    inr (
      omega arith,
      (
        script_of_items Two [],
        5,
        0x0D ∷ 1 ∷ 0 ∷ 0x0D ∷ 1 ∷ 0 ∷ 0x0E ∷ 0x0E ∷ [],
        begins Two (0x0D ∷ 1 ∷ 0 ∷ 0x0D ∷ 1 ∷ 0 ∷ 0x0E ∷ 0x0E ∷ []),
        inr (
          3,
          0x0D ∷ 1 ∷ 0 ∷ 0x0E ∷ 0x0E ∷ [],
          refl,
          record {
            count = 1;
            body = 0x0D ∷ 1 ∷ 0 ∷ 0x0E ∷ 0x0E ∷ [];
            len = 0;
            allowed = tt;
            some = omega arith;
            small = omega arith;
            whole = refl;
            good = record { prefix = []; steps = []; whole = refl; good = refl; count = refl };
            distance_is = refl;
          },
          (inl (0x0D, 1 ∷ 0 ∷ 0x0E ∷ 0x0E ∷ [], refl, refl), λ rest e. let first = differ 0x0D 0x0E (1 ∷ 0 ∷ 0x0E ∷ 0x0E ∷ []) rest e in absurd (omega arith)),
        ),
      ),
    )

pub returns-clause-inner_cut : goal.returns-clause-inner_cut
returns-clause-inner_cut c =
    inr (
      omega arith,
      inr (
        script_of_items Two [],
        5,
        0x0D ∷ 1 ∷ 0 ∷ 3 ∷ 0xDA ∷ [],
        begins Two (0x0D ∷ 1 ∷ 0 ∷ 3 ∷ 0xDA ∷ []),
        inr (
          3,
          3 ∷ 0xDA ∷ [],
          refl,
          record {
            count = 1;
            body = 3 ∷ 0xDA ∷ [];
            len = 0;
            allowed = tt;
            some = omega arith;
            small = omega arith;
            whole = refl;
            good = record { prefix = []; steps = []; whole = refl; good = refl; count = refl };
            distance_is = refl;
          },
          (3, 0xDA ∷ [], 2, refl, refl, omega arith),
        ),
      ),
    )

pub returns-clause-many : goal.returns-clause-many
returns-clause-many c =
    inr (
      few_bytes 257 (omega arith),
      (
        script_of_items Two [],
        5,
        0x0D ∷ 0xFF ∷ 0xFF ∷ (frame_bytes 257 ++ 0x0E ∷ []),
        begins Two (0x0D ∷ 0xFF ∷ 0xFF ∷ (frame_bytes 257 ++ 0x0E ∷ [])),
        (refl, (Repeated 0xFFFF (frames 257), [], frames_start 257, let many = many_frames 257 in omega arith)),
      ),
    )
