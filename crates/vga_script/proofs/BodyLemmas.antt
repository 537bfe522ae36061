-- Reading the body of a repeat.
use Rattle.std.proofs.Common.{◌≡◌, ℕ, ◌+◌, ◌-◌, ◌<◌, ◌≤◌, ◌^◌, List, [], ◌∷◌, ◌++◌, length, length-append, take, refl, sym, ap, ◌∙◌, subst, arith, append_assoc}
use Rattle.std.proofs.Common.{append-nil, inl, inr}
use Rattle.std.proofs.lemmas.List.{take_at}
use Rattle.std.specs.List.{flat_map}
use Rattle.byteorder.specs.Endian.{little_bytes}
use Rattle.vga_bits.specs.declared.fault.Fault.TheVariants as fault
use Rattle.vga_script.specs.declared.step.Step.{Step}
use Rattle.vga_script.specs.Item.{Repeated}
use Rattle.vga_script.specs.declared.version.Version.{Version}
use Rattle.vga_script.specs.Step.{IsInRange}
use Rattle.vga_script.specs.Version.{AllowsRepeats}
use Rattle.vga_script.specs.Beginning.{steps_in}
use Rattle.vga_script.specs.Spelling.{opcode_repeat, opcode_end, spelling, StartsWithStep, StartsWithItem, SpellsSteps}
use Rattle.vga_script.specs.Decoding.{HasStepsBefore, StandsInRepeat, IsItemFault}
use Rattle.vga_script.proofs.GrammarLemmas.{steps_range, spelled_steps}
use Rattle.vga_script.proofs.BeginningLemmas.{few_steps, steps_are, spells_in}

-- one more step after some
spells_more : (prefix : List ℕ) (steps : List Step) (step : Step) → SpellsSteps prefix steps → IsInRange step →
    SpellsSteps (prefix ++ spelling step) (steps ++ step ∷ [])
spells_more prefix [] step none fits =
    ([], (fits, ap (λ (l : List ℕ). l ++ spelling step) none ∙ sym (append-nil (spelling step))), refl)
spells_more prefix (s ∷ steps) step (rest, (fits, whole), more) last = (
  rest ++ spelling step,
  (fits, ap (λ (l : List ℕ). l ++ spelling step) whole ∙ append_assoc (spelling s) rest (spelling step)),
  spells_more rest steps step more last,
)

-- no step is read
pub body_begins : (bytes : List ℕ) → HasStepsBefore bytes 0 bytes
body_begins bytes = record { prefix = []; steps = []; whole = refl; good = refl; count = refl }

-- one more step is read
pub body_goes_on : (bytes rest others : List ℕ) (len : ℕ) (step : Step) → HasStepsBefore bytes len rest → StartsWithStep rest step others →
    HasStepsBefore bytes (len + 1) others
body_goes_on bytes rest others len step h (fits, e) = record {
  prefix = h.prefix ++ spelling step;
  steps = h.steps ++ step ∷ [];
  whole = h.whole ∙ ap (λ (l : List ℕ). h.prefix ++ l) e ∙ sym (append_assoc h.prefix (spelling step) others);
  good = spells_more h.prefix h.steps step h.good fits;
  count = let counted = h.count in let l = length-append h.steps (step ∷ []) in omega arith;
}

-- there are no more steps and bytes after them than bytes
pub body_within : (bytes rest : List ℕ) (len : ℕ) → HasStepsBefore bytes len rest → len + length rest ≤ length bytes
body_within bytes rest len h =
    let whole = ap length h.whole ∙ length-append h.prefix rest in
    let few = few_steps h.prefix h.steps h.good in
    let count = h.count in omega arith

-- the bytes of the steps
body_prefix : (bytes rest : List ℕ) (len : ℕ) (h : HasStepsBefore bytes len rest) → take (length bytes - length rest) bytes ≡ h.prefix
body_prefix bytes rest len h =
    let whole = ap length h.whole ∙ length-append h.prefix rest in
    ap (take (length bytes - length rest)) h.whole ∙ take_at h.prefix rest (length bytes - length rest) (omega arith)

pub repeat_counted : (bytes rest prefix : List ℕ) (len : ℕ) → HasStepsBefore bytes len rest → prefix ≡ take (length bytes - length rest) bytes →
    SpellsSteps prefix (steps_in prefix) × (len ≡ length (steps_in prefix)) × (len ≤ length bytes)
repeat_counted bytes rest prefix len h is =
    let same : prefix ≡ h.prefix = is ∙ body_prefix bytes rest len h in
    let good : SpellsSteps prefix h.steps = subst (λ (l : List ℕ). SpellsSteps l h.steps) (sym same) h.good in
    let few = body_within bytes rest len h in
    (spells_in prefix h.steps good, h.count ∙ sym (ap length (steps_are prefix h.steps good)), omega arith)

-- the repeat is found, where its end stands after the steps
pub repeat_found : (version : Version) (bytes fields body rest others prefix : List ℕ) (count len : ℕ) → AllowsRepeats version → bytes ≡ opcode_repeat ∷ fields →
    fields ≡ little_bytes 2 count ++ body
    → 0 < count → count < 2 ^ 16 → HasStepsBefore body len rest → rest ≡ opcode_end ∷ others → prefix ≡ take (length body - length rest) body
    → StartsWithItem version bytes (Repeated count (steps_in prefix)) others
repeat_found version bytes fields body rest others prefix count len allowed e counted some small h ends is =
    let good : SpellsSteps prefix (steps_in prefix) = (repeat_counted body rest prefix len h is).0 in
    let same : prefix ≡ h.prefix = is ∙ body_prefix body rest len h in
    let steps : flat_map spelling (steps_in prefix) ≡ h.prefix = sym (spelled_steps prefix (steps_in prefix) good) ∙ same in
    let behind : body ≡ (flat_map spelling (steps_in prefix) ++ opcode_end ∷ []) ++ others =
    h.whole ∙ ap (λ (l : List ℕ). h.prefix ++ l) ends ∙ ap (λ (l : List ℕ). l ++ opcode_end ∷ others) (sym steps)
    ∙ sym (append_assoc (flat_map spelling (steps_in prefix)) (opcode_end ∷ []) others) in (
      (allowed, some, small, steps_range prefix (steps_in prefix) good),
      e ∙ ap (λ (l : List ℕ). opcode_repeat ∷ l) (counted ∙ ap (λ (l : List ℕ). little_bytes 2 count ++ l) behind),
    )

-- the repeat is open where the steps end
pub repeat_open : (version : Version) (bytes fields body rest : List ℕ) (count len place : ℕ) → AllowsRepeats version → bytes ≡ opcode_repeat ∷ fields →
    fields ≡ little_bytes 2 count ++ body
    → 0 < count → count < 2 ^ 16 → HasStepsBefore body len rest → place ≡ length bytes - length rest → StandsInRepeat version bytes place rest
repeat_open version bytes fields body rest count len place allowed e counted some small h is =
    let within = body_within body rest len h in
    let whole : bytes ≡ opcode_repeat ∷ (little_bytes 2 count ++ body) = e ∙ ap (λ (l : List ℕ). opcode_repeat ∷ l) counted in
    let l = ap length whole in
    record { count = count; body = body; len = len; allowed = allowed; some = some; small = small; whole = whole; good = h; distance_is = omega arith }

-- so where nothing is left, its fault is that of an item
pub repeat_cut : (version : Version) (so_far offset place : ℕ) (bytes rest : List ℕ) → StandsInRepeat version bytes place rest → rest ≡ [] →
    IsItemFault version so_far offset bytes (fault.Truncated offset)
repeat_cut version so_far offset place bytes rest h e =
    inl (refl, inr (place, subst (λ (l : List ℕ). StandsInRepeat version bytes place l) e h))
