-- Going over bytes that spell steps or items, and writing a text of each.
use Rattle.std.proofs.Common.{◌≡◌, ℕ, ◌<◌, ◌≤◌, List, [], ◌∷◌, ◌++◌, length, drop, refl, sym, ap, ◌∙◌, arith, append_assoc, append-nil, inl, inr}
use Rattle.std.specs.List.{flat_map}
use Rattle.vga_bits.specs.declared.fault.Fault.{Fault}
use Rattle.vga_script.specs.declared.step.Step.{Step}
use Rattle.vga_script.specs.declared.fields.NoStep.{NoStep}
use Rattle.vga_script.specs.declared.fields.NoStep.TheVariants as no_step
use Rattle.vga_script.specs.declared.version.Version.{Version}
use Rattle.vga_script.specs.Decoding.{StartsWithBadStep, StartsWithCutStep, IsItemFault}
use Rattle.vga_script.specs.Beginning.{steps_in, items_in}
use Rattle.vga_script.specs.Item.{Item, ScriptItems, expanded, step_limit}
use Rattle.vga_script.specs.Printing.{printed_line, printed_steps, printed_item, version_line, printed_script}
use Rattle.vga_script.specs.Spelling.{StartsWithStep, StartsWithItem, SpellsSteps, SpellsItems, Spells}
use Rattle.vga_script.proofs.DecodeLemmas.{nothing}
use Rattle.vga_script.proofs.BeginningLemmas.{steps_are, first_read, items_are, first_item}
use Rattle.vga_script.proofs.ItemLemmas.{length-expanded-cons}
use Rattle.vga_script.proofs.ItemFaultLemmas.{kind, item_or_kind}
use Rattle.vga_script.proofs.StepsLemmas.{items_spelled}
use Rattle.vga_script.proofs.StopLemmas.{NoStepStarts, step_starts}

-- ---- steps

-- the text so far and that of the steps which are left
pub record HasPrintedSteps (start now bytes rest : List ℕ) : Type 0 where
  pub good : SpellsSteps rest (steps_in rest)
  pub text : now ++ printed_steps (steps_in rest) ≡ start ++ printed_steps (steps_in bytes)

pub steps_begin : (start bytes : List ℕ) → SpellsSteps bytes (steps_in bytes) → HasPrintedSteps start start bytes bytes
steps_begin start bytes h = record { good = h; text = refl }

pub steps_go_on : (start now new bytes rest others : List ℕ) (step : Step) → HasPrintedSteps start now bytes rest → StartsWithStep rest step others → new ≡ now
    ++ printed_line step → HasPrintedSteps start new bytes others
steps_go_on start now new bytes rest others step h starts e =
    let so_far = first_read rest others (steps_in rest) step h.good starts in
    record {
      good = so_far.1;
      text = ap (λ (l : List ℕ). l ++ printed_steps (steps_in others)) e ∙ append_assoc now (printed_line step) (printed_steps (steps_in others))
          ∙ ap (λ (l : List Step). now ++ printed_steps l) (sym so_far.0) ∙ h.text;
    }

pub steps_end : (start now bytes rest : List ℕ) → HasPrintedSteps start now bytes rest → length rest ≡ 0 → now ≡ start ++ printed_steps (steps_in bytes)
steps_end start now bytes rest h none =
    let empty : steps_in rest ≡ [] = ap steps_in (nothing rest none) ∙ steps_are [] [] refl in
    sym (append-nil now) ∙ ap (λ (l : List Step). now ++ printed_steps l) (sym empty) ∙ h.text

-- bytes that spell steps begin with one
begin_with_step : (bytes : List ℕ) (steps : List Step) → 0 < length bytes → SpellsSteps bytes steps → NoStepStarts bytes → ⊥
begin_with_step bytes [] some e stop = let l = ap length e in absurd (omega arith)
begin_with_step bytes (s ∷ steps) some (rest, (fits, whole), more) stop = step_starts s rest bytes fits whole stop

pub never_stops : (bytes : List ℕ) (steps : List Step) (reason : NoStep) → 0 < length bytes → SpellsSteps bytes steps
    → (reason ≡ no_step.Bad → StartsWithBadStep bytes) → (reason ≡ no_step.Cut → StartsWithCutStep bytes) → ⊥
never_stops bytes steps no_step.Bad some h bad cut = begin_with_step bytes steps some h (inl (bad refl))
never_stops bytes steps no_step.Cut some h bad cut = begin_with_step bytes steps some h (inr (cut refl))

-- ---- items

-- the text so far and that of the items which are left, which mean no more steps than a script may
pub record HasPrintedItems (start now : List ℕ) (version : Version) (bytes rest : List ℕ) : Type 0 where
  pub good : SpellsItems version rest (items_in rest)
  pub few : length (expanded (items_in rest)) ≤ step_limit
  pub short : length rest ≤ length bytes
  pub text : now ++ flat_map printed_item (items_in rest) ≡ start ++ flat_map printed_item (items_in bytes)

pub items_begin : (start : List ℕ) (version : Version) (bytes : List ℕ) → SpellsItems version bytes (items_in bytes) →
    length (expanded (items_in bytes)) ≤ step_limit → HasPrintedItems start start version bytes bytes
items_begin start version bytes h few = record { good = h; few = few; short = omega arith; text = refl }

pub items_go_on : (start now new : List ℕ) (version : Version) (bytes rest others : List ℕ) (i : Item) → HasPrintedItems start now version bytes rest →
    StartsWithItem version rest i others → length others < length rest → new ≡ now ++ printed_item i
    → HasPrintedItems start new version bytes others
items_go_on start now new version bytes rest others i h starts less e =
    let so_far = first_item version rest others (items_in rest) i h.good starts in
    let counts = length-expanded-cons i (items_in others) in
    let same = ap (λ (l : List Item). length (expanded l)) so_far.0 in
    record {
      good = so_far.1;
      few = let f = h.few in omega arith;
      short = let s = h.short in omega arith;
      text = ap (λ (l : List ℕ). l ++ flat_map printed_item (items_in others)) e ∙ append_assoc now (printed_item i) (flat_map printed_item (items_in others))
          ∙ ap (λ (l : List Item). now ++ flat_map printed_item l) (sym so_far.0) ∙ h.text;
    }

pub items_end : (start now : List ℕ) (version : Version) (bytes rest : List ℕ) → HasPrintedItems start now version bytes rest → length rest ≡ 0 → now ≡ start
    ++ flat_map printed_item (items_in bytes)
items_end start now version bytes rest h none =
    let empty : items_in rest ≡ [] = ap items_in (nothing rest none) ∙ items_are version [] [] refl in
    sym (append-nil now) ∙ ap (λ (l : List Item). now ++ flat_map printed_item l) (sym empty) ∙ h.text

-- bytes that spell items begin with one
begin_with_item : (version : Version) (bytes : List ℕ) (items : List Item) (f : Fault) → 0 < length bytes → SpellsItems version bytes items →
    length (expanded items) ≤ step_limit → IsItemFault version 0 0 bytes f → ⊥
begin_with_item version bytes [] f some e few bad = let l = ap length e in absurd (omega arith)
begin_with_item version bytes (i ∷ items) f some (rest, starts, more) few bad =
    let whole = length-expanded-cons i items in item_or_kind version 0 0 bytes f i rest (kind version 0 0 bytes f bad) starts (omega arith)

pub never_faulty : (start now : List ℕ) (version : Version) (bytes rest : List ℕ) (f : Fault) → HasPrintedItems start now version bytes rest → 0 < length rest →
    ((so_far : ℕ) → IsItemFault version so_far 0 rest f) → ⊥
never_faulty start now version bytes rest f h some bad = begin_with_item version rest (items_in rest) f some h.good h.few (bad 0)

-- the printed text of a script
pub script_printed : (bytes empty first last text rest : List ℕ) (version : Version) (script : ScriptItems) → Spells bytes script → version ≡ script.version →
    empty ≡ [] → first ≡ empty ++ text → text ≡ version_line version → rest ≡ drop 5 bytes
    → last ≡ first ++ flat_map printed_item (items_in rest) → last ≡ printed_script script
script_printed bytes empty first last text rest version script h v e f t r l =
    let items : items_in rest ≡ script.items = ap items_in r ∙ (items_spelled bytes script h).0 in
    let line : first ≡ version_line script.version = f ∙ ap (λ (x : List ℕ). x ++ text) e ∙ t ∙ ap version_line v in
    l ∙ ap (λ (x : List ℕ). x ++ flat_map printed_item (items_in rest)) line ∙ ap (λ (x : List Item). version_line script.version
    ++ flat_map printed_item x) items
