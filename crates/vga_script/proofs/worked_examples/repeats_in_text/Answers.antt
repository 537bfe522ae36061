use Rattle.std.proofs.Common.{◌≡◌, ℕ, ◌≤◌, List, [], ◌∷◌, Some, length, get_or, codes, refl, ap, arith, inl, inr}
use Rattle.vga_script.specs.declared.step.Step.TheVariants.{Out, Frame}
use Rattle.vga_script.specs.Item.{Repeated, script_of_items, expanded, step_limit}
use Rattle.vga_script.specs.declared.version.Version.TheVariants.{One, Two}
use Rattle.vga_script.specs.Examples.{three_times}
use Rattle.vga_script.specs.Tokens.{words, lines}
use Rattle.vga_script.specs.Text.{SpellsBeginningOfRepeat, IsVersionTwo, SpellsLinesUpTo}
use Rattle.vga_script.proofs.OptionLemmas.{lt_test}
use Rattle.vga_script.proofs.ItemLemmas.{length-repeated, length-expanded-cons}
use Rattle.vga_script.proofs.NameLemmas.{repeat_unnamed, end_unnamed}
use Rattle.vga_script.proofs.RepeatLineLemmas.{not_step_named}
use Rattle.vga_script.proofs.AssembleLemmas.{blank_none, not_two}
use Rattle.vga_script.proofs.worked_examples.repeats_in_text.Goals as goal

three_steps : length (expanded three_times.items) ≤ step_limit
three_steps =
    let whole = length-expanded-cons (Repeated 3 (Out 0x3C4 2 ∷ [])) [] in
    let block = length-repeated 3 (Out 0x3C4 2 ∷ []) in omega arith

pub returns-clause-block : goal.returns-clause-block
returns-clause-block c = (
  2,
  codes "repeat 03 ; times" ∷ [] ∷ codes " out 3c4 2" ∷ codes "END" ∷ [],
  record { before = []; line = codes "Version 2"; blank = tt; version = (codes "Version", refl, refl); whole = refl; number = refl },
  (
    record { lines = codes "repeat 03 ; times" ∷ [] ∷ codes " out 3c4 2" ∷ codes "END" ∷ []; items = Repeated 3 (Out 0x3C4 2 ∷ []) ∷ [] } ∷ [],
    refl,
    refl,
    (
      inr (
        tt,
        (
          codes "repeat 03 ; times",
          3,
          [] ∷ codes " out 3c4 2" ∷ [],
          Out 0x3C4 2 ∷ [],
          codes "END",
          refl,
          refl,
          (codes "repeat", codes "03", refl, refl, (omega arith, (lt_test _ _ refl, (lt_test _ _ refl, tt)), refl), omega arith, omega arith),
          (
            [],
            Out 0x3C4 2 ∷ [],
            refl,
            refl,
            (
              Out 0x3C4 2 ∷ [],
              [],
              refl,
              (
                Out 0x3C4 2,
                refl,
                refl,
                (
                  codes "3c4",
                  codes "2",
                  refl,
                  (
                    omega arith,
                    (omega arith, (lt_test _ _ refl, (lt_test _ _ refl, (lt_test _ _ refl, tt))), refl),
                  ),
                  (omega arith, (omega arith, (lt_test _ _ refl, tt), refl)),
                ),
              ),
              refl,
            ),
          ),
          (codes "END", refl, refl),
        ),
      ),
      tt,
    ),
  ),
  three_steps,
)

-- the line that begins a block of three
repeat_three : SpellsBeginningOfRepeat (words (codes "repeat 3")) 3
repeat_three = (codes "repeat", codes "3", refl, refl, (omega arith, (lt_test _ _ refl, tt), refl), omega arith, omega arith)

-- no group stands before what follows the line of version 2
behind_version : (text : List ℕ) (left : List (List ℕ)) → lines text ≡ codes "version 2" ∷ left → SpellsLinesUpTo text (script_of_items Two []) 2 left
behind_version text left whole = record {
  start = 2;
  rest = left;
  prefix = [];
  from = record { before = []; line = codes "version 2"; blank = tt; version = (codes "version", refl, refl); whole = whole; number = refl };
  one = λ e. absurd (cc);
  whole = refl;
  good = ([], refl, refl, tt);
  few = omega arith;
  number = refl;
}

pub returns-clause-no_end : goal.returns-clause-no_end
returns-clause-no_end c = (
  omega arith,
  (
    script_of_items Two [],
    2,
    codes "repeat 3" ∷ codes "frame" ∷ [],
    behind_version (codes "version 2\nrepeat 3\nframe") (codes "repeat 3" ∷ codes "frame" ∷ []) refl,
    inr (inr (inl (
      refl,
      (
        2,
        record {
          first = codes "repeat 3";
          count = 3;
          body = codes "frame" ∷ [];
          steps = Frame ∷ [];
          allowed = tt;
          begins = repeat_three;
          good = (Frame ∷ [], [], refl, (Frame, refl, refl, refl), refl);
          whole = refl;
          distance_is = refl;
        },
      ),
    ))),
  ),
)

-- a line of two words does not end a block
two_words : (word : List ℕ) → codes "end" ∷ codes "3" ∷ [] ≡ word ∷ [] → ⊥
two_words word e = let len = ap length e in absurd (omega arith)

pub returns-clause-inner : goal.returns-clause-inner
returns-clause-inner c = (
  omega arith,
  (
    script_of_items Two [],
    2,
    codes "repeat 3" ∷ codes "end 3" ∷ [],
    behind_version (codes "version 2\nrepeat 3\nend 3") (codes "repeat 3" ∷ codes "end 3" ∷ []) refl,
    inr (inl (
      1,
      codes "end 3",
      [],
      refl,
      record {
        first = codes "repeat 3";
        count = 3;
        body = [];
        steps = [];
        allowed = tt;
        begins = repeat_three;
        good = refl;
        whole = refl;
        distance_is = refl;
      },
      (λ steps h. not_step_named (words (codes "end 3")) (codes "end") (codes "3" ∷ []) (codes "end") steps end_unnamed refl refl h, λ h. two_words h.0 h.1),
    )),
  ),
)

-- a line that begins a block has words, and does not say version 2
has_words : words (codes "repeat 3") ≡ [] → ⊥
has_words e = let both : codes "repeat" ∷ codes "3" ∷ [] ≡ [] = e in absurd (cc)

says_nothing : IsVersionTwo (words (codes "repeat 3")) → ⊥
says_nothing (first, e, named) = let second = ap (λ (ws : List (List ℕ)). get_or (get_or ws 1 []) 0 0) e in absurd (omega arith)

pub returns-clause-no_version : goal.returns-clause-no_version
returns-clause-no_version c =
    let text : List ℕ = codes "repeat 3\nend" in (
      omega arith,
      (
        script_of_items One [],
        1,
        codes "repeat 3" ∷ codes "end" ∷ [],
        record {
          start = 1;
          rest = codes "repeat 3" ∷ codes "end" ∷ [];
          prefix = [];
          from = (refl, refl);
          one = λ one. not_two text text (codes "repeat 3") (Some (codes "end")) 1 (blank_none text) refl has_words says_nothing;
          whole = refl;
          good = ([], refl, refl, tt);
          few = omega arith;
          number = refl;
        },
        inl (
          refl,
          (
            codes "repeat 3",
            codes "end" ∷ [],
            refl,
            (
              λ steps h. not_step_named (words (codes "repeat 3")) (codes "repeat") (codes "3" ∷ []) (codes "repeat") steps repeat_unnamed refl refl h,
              λ allowed count h. absurd allowed,
            ),
          ),
        ),
      ),
    )
