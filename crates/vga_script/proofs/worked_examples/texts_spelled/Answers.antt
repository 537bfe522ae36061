use Rattle.std.proofs.Common.{◌≡◌, ℕ, List, [], ◌∷◌, None, length, get_or, codes, refl, ap, arith, inl, inr}
use Rattle.vga_script.specs.declared.step.Step.TheVariants.{Out, Int}
use Rattle.vga_script.specs.Item.{Once, script_of_items}
use Rattle.vga_script.specs.declared.keyword.Keyword.TheVariants as keyword
use Rattle.vga_script.specs.declared.version.Version.TheVariants.{One}
use Rattle.vga_script.specs.Tokens.{words, lines}
use Rattle.vga_script.specs.Text.{IsVersionTwo}
use Rattle.vga_script.specs.StepReading.{step_of_keyword, only_two_hex_numbers, next_hex_number, hex_number_of, number_of_word}
use Rattle.vga_script.proofs.OptionLemmas.{lt_test}
use Rattle.vga_script.proofs.LineLemmas.{line_bad}
use Rattle.vga_script.proofs.AssembleLemmas.{blank_none, not_two}
use Rattle.vga_script.proofs.worked_examples.texts_spelled.Goals as goal

pub returns-clause-good : goal.returns-clause-good
returns-clause-good c = (
  1,
  lines (codes "out 3c4 2 ; map mask\nINT ax=13\n"),
  (refl, refl),
  (
    record { lines = codes "out 3c4 2 ; map mask" ∷ []; items = Once (Out 0x3C4 2) ∷ [] } ∷ record {
      lines = codes "INT ax=13" ∷ [];
      items = Once (Int 0x13 0 0 0 []) ∷ [];
    } ∷ record { lines = [] ∷ []; items = [] } ∷ [],
    refl,
    refl,
    (
      inl (
        codes "out 3c4 2 ; map mask",
        Out 0x3C4 2 ∷ [],
        refl,
        refl,
        (
          Out 0x3C4 2,
          refl,
          refl,
          (
            codes "3c4",
            codes "2",
            refl,
            (
              omega arith,
              (
                omega arith,
                (lt_test _ _ refl, (lt_test _ _ refl, (lt_test _ _ refl, tt))),
                refl,
              ),
            ),
            (omega arith, (omega arith, (lt_test _ _ refl, tt), refl)),
          ),
        ),
      ),
      (
        inl (
          codes "INT ax=13",
          Int 0x13 0 0 0 [] ∷ [],
          refl,
          refl,
          (
            Int 0x13 0 0 0 [],
            refl,
            refl,
            (
              codes "ax=13" ∷ [],
              [],
              [],
              [],
              [],
              refl,
              inr (codes "ax=", codes "13", refl, refl, (omega arith, (omega arith, (lt_test _ _ refl, (lt_test _ _ refl, tt)), refl))),
              inl (refl, refl),
              inl (refl, refl),
              inl (refl, refl),
              inl (refl, refl),
            ),
          ),
        ),
        (inl ([], [], refl, refl, refl), tt),
      ),
    ),
  ),
  omega arith,
)

-- the line has words, and does not say version 2
has_words : words (codes "out 3C4") ≡ [] → ⊥
has_words e = let both : codes "out" ∷ codes "3C4" ∷ [] ≡ [] = e in absurd (cc)

says_nothing : IsVersionTwo (words (codes "out 3C4")) → ⊥
says_nothing (first, e, named) = let second = ap (λ (ws : List (List ℕ)). length (get_or ws 1 [])) e in absurd (omega arith)

pub returns-clause-bad : goal.returns-clause-bad
unfolding step_of_keyword only_two_hex_numbers next_hex_number hex_number_of number_of_word
returns-clause-bad c =
    let line = codes "out 3C4" in (
      omega arith,
      (
        script_of_items One [],
        1,
        line ∷ [],
        record {
          start = 1;
          rest = line ∷ [];
          prefix = [];
          from = (refl, refl);
          one = λ one. not_two line line line None 1 (blank_none line) refl has_words says_nothing;
          whole = refl;
          good = ([], refl, refl, tt);
          few = omega arith;
          number = refl;
        },
        inl (
          refl,
          (
            line,
            [],
            refl,
            (
              λ steps. line_bad _ (codes "out") (codes "3C4" ∷ []) keyword.Out steps refl refl refl,
              λ allowed count h. absurd allowed,
            ),
          ),
        ),
      ),
    )
