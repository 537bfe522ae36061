-- The steps of a script in its bytes.
use Rattle.std.proofs.Common.{◌≡◌, ◌≢◌, ℕ, zero, suc, ◌+◌, ◌-◌, ◌≤◌, get_or, List, [], ◌∷◌, length, drop, refl, sym, ap, ◌∙◌, subst, arith, inl}
use Rattle.std.proofs.lemmas.List.{drop-drop}
use Rattle.vga_script.specs.declared.step.Step.{Step}
use Rattle.vga_script.specs.declared.version.Version.{Version}
use Rattle.vga_script.specs.declared.version.Version.TheVariants.{One, Two}
use Rattle.vga_script.specs.Version.{version_byte}
use Rattle.vga_script.specs.Beginning.{items_in, script_of_bytes}
use Rattle.vga_script.specs.Item.{ScriptItems, expanded, step_limit, AreItemsOf}
use Rattle.vga_script.specs.Progress.{steps_left, StandsInOrOutsideRepeat}
use Rattle.vga_script.specs.Spelled.{SpellsExpanded}
use Rattle.vga_script.specs.Spelling.{encoding, SpellsItems, Spells}
use Rattle.vga_script.specs.Step.{AreInRange}
use Rattle.vga_script.proofs.GrammarLemmas.{items_fit, spelled_items, spelled, one_script_lem}
use Rattle.vga_script.proofs.BeginningLemmas.{items_are}
use Rattle.vga_script.proofs.ItemLemmas.{all_widened, expanded_in_range}
use Rattle.vga_script.proofs.ProgressLemmas.{outside_left}

-- after the header stand the items
pub behind_header : (bytes : List ℕ) (script : ScriptItems) → Spells bytes script → 5 ≤ length bytes
behind_header bytes script (rest, whole, good, few) = let l = ap length whole in omega arith

items_of : (bytes : List ℕ) (script : ScriptItems) → Spells bytes script → SpellsItems script.version (drop 5 bytes) script.items
items_of bytes script (rest, whole, good, few) = subst (λ (l : List ℕ). SpellsItems script.version l script.items) (sym (ap (drop 5) whole)) good

-- which are read back
pub items_spelled : (bytes : List ℕ) (script : ScriptItems) → Spells bytes script → (items_in (drop 5 bytes) ≡ script.items)
    × SpellsItems script.version (drop 5 bytes) (items_in (drop 5 bytes))
items_spelled bytes script h =
    let good = items_of bytes script h in
    let same = items_are script.version (drop 5 bytes) script.items good in (same, subst (SpellsItems script.version (drop 5 bytes)) (sym same) good)

fits : (bytes : List ℕ) (script : ScriptItems) → Spells bytes script → AreItemsOf Two script.items
fits bytes script h = all_widened script.version script.items (items_fit script.version (drop 5 bytes) script.items (items_of bytes script h))

-- a place stands there
pub items_stand : (bytes body : List ℕ) → body ≡ [] → Spells bytes (script_of_bytes bytes) → StandsInOrOutsideRepeat body (drop 5 bytes)
items_stand bytes body bare h =
    let script = script_of_bytes bytes in
    inl (record {
      items = script.items;
      fit = fits bytes script h;
      none = bare;
      spelled =
          spelled_items script.version (drop 5 bytes) script.items (items_of bytes script h);
    })

-- from which the steps of the script are left
pub items_left : (bytes body : List ℕ) (left : ℕ) → body ≡ [] → Spells bytes (script_of_bytes bytes) →
    steps_left left body (drop 5 bytes) ≡ expanded (script_of_bytes bytes).items
items_left bytes body left bare h =
    let script = script_of_bytes bytes in
    outside_left left body (drop 5 bytes) script.items (fits bytes script h) bare
    (spelled_items script.version (drop 5 bytes) script.items (items_of bytes script h))

-- they are in range, and no more than a script may mean
pub steps_in_range : (bytes : List ℕ) (script : ScriptItems) → Spells bytes script → AreInRange (expanded script.items)
steps_in_range bytes script h = expanded_in_range script.version script.items (items_fit script.version (drop 5 bytes) script.items (items_of bytes script h))

pub steps_few : (bytes : List ℕ) (script : ScriptItems) → Spells bytes script → length (expanded script.items) ≤ step_limit
steps_few bytes script (rest, whole, good, few) = few

pub few_steps : (bytes : List ℕ) (steps : List Step) → Spells bytes (script_of_bytes bytes) → steps ≡ expanded (script_of_bytes bytes).items → length steps ≤ step_limit
few_steps bytes steps h e = subst (λ (l : List Step). length l ≤ step_limit) (sym e) (steps_few bytes (script_of_bytes bytes) h)

pub range_of_steps : (bytes : List ℕ) (script : ScriptItems) (steps : List Step) → Spells bytes script → script ≡ script_of_bytes bytes →
    steps ≡ expanded (script_of_bytes bytes).items → AreInRange steps
range_of_steps bytes script steps h is e = subst AreInRange (sym (e ∙ ap (λ (s : ScriptItems). expanded s.items) (sym is))) (steps_in_range bytes script h)

-- a copy of the bytes is the script's encoding
pub encoding_kept : (bytes copy : List ℕ) (script : ScriptItems) → Spells bytes script → copy ≡ bytes → copy ≡ encoding script
encoding_kept bytes copy script h e = e ∙ spelled bytes script h

-- a copy of the bytes spells the script too
pub copy_spells : (bytes copy : List ℕ) → copy ≡ bytes → Spells bytes (script_of_bytes bytes) → Spells copy (script_of_bytes copy) × Spells bytes (script_of_bytes copy)
copy_spells bytes copy e h = (subst (λ (l : List ℕ). Spells l (script_of_bytes l)) (sym e) h, subst (λ (l : List ℕ). Spells bytes (script_of_bytes l)) (sym e) h)

-- the version stands after the letters
pub version_two : (bytes : List ℕ) (script : ScriptItems) → Spells bytes script → get_or bytes 4 0 ≡ 2 → Two ≡ script.version
version_two bytes script (rest, whole, good, few) is = byte_two script.version (sym (ap (λ (l : List ℕ). get_or l 4 0) whole) ∙ is)
  where
    byte_two : (version : Version) → version_byte version ≡ 2 → Two ≡ version
    byte_two One e = absurd (omega arith)
    byte_two Two e = refl

pub version_one : (bytes : List ℕ) (script : ScriptItems) → Spells bytes script → get_or bytes 4 0 ≢ 2 → One ≡ script.version
version_one bytes script (rest, whole, good, few) other = byte_one script.version (λ e. other (ap (λ (l : List ℕ). get_or l 4 0) whole ∙ e))
  where
    byte_one : (version : Version) → (version_byte version ≡ 2 → ⊥) → One ≡ version
    byte_one One not = refl
    byte_one Two not = absurd (not refl)

-- ---- the steps that bytes mean

pub one_meaning : (bytes : List ℕ) (first second : List Step) → SpellsExpanded bytes first → SpellsExpanded bytes second → first ≡ second
one_meaning bytes first second (a, h, e) (b, k, f) = e ∙ ap (λ (s : ScriptItems). expanded s.items) (one_script_lem bytes a b h k) ∙ sym f

pub meaning_fits : (bytes : List ℕ) (steps : List Step) → SpellsExpanded bytes steps → AreInRange steps
meaning_fits bytes steps (script, h, e) = subst AreInRange (sym e) (steps_in_range bytes script h)

-- ---- steps that are passed over

-- after the first i and one more, those are left that the one leaves
pub one_passed : (all left : List Step) (i : ℕ) (step : Step) → drop i all ≡ step ∷ left → left ≡ drop (i + 1) all
one_passed all left i step e = sym (ap (drop 1) e) ∙ drop-drop 1 i all

-- where none is after the first i, none is after more
none_behind : (n : ℕ) (left : List Step) → left ≡ [] → drop n left ≡ []
none_behind zero left e = e
none_behind (suc n) [] e = refl
none_behind (suc n) (step ∷ left) e = absurd (cc)

pub all_passed : (all : List Step) (i n : ℕ) → i ≤ n → drop i all ≡ [] → drop n all ≡ []
all_passed all i n within e =
    let split : i + (n - i) ≡ n = omega arith in
    ap (λ (k : ℕ). drop k all) (sym split) ∙ sym (drop-drop (n - i) i all) ∙ none_behind (n - i) (drop i all) e
