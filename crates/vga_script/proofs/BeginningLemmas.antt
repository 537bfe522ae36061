-- The steps and the items that bytes spell are read back from them.
use Rattle.std.proofs.Common.{◌≡◌, ℕ, zero, suc, ◌<◌, ◌≤◌, List, [], ◌∷◌, ◌++◌, length, drop, get_or, length-append, Option, Some, refl, sym, ap, ◌∙◌, subst}
use Rattle.std.proofs.Common.{arith, append_assoc}
use Rattle.std.specs.List.{flat_map}
use Rattle.byteorder.specs.Endian.{little_bytes, little_number}
use Rattle.vga_script.specs.declared.step.Step.{Step}
use Rattle.vga_script.specs.declared.step.Step.TheVariants.{Out, OutWord, In, InWord, Put, PutWord, Get, GetWord, Int, Advance, Frame, Show}
use Rattle.vga_script.specs.Item.{Item, Once, Repeated, IsItemOf, ScriptItems, script_of_items}
use Rattle.vga_script.specs.declared.version.Version.{Version}
use Rattle.vga_script.specs.declared.version.Version.TheVariants.{One, Two}
use Rattle.vga_script.specs.Version.{version_byte}
use Rattle.vga_script.specs.Step.{AreInRange}
use Rattle.vga_script.specs.Beginning.{step_of, step_followed_by_rest, steps_from, steps_in, rest_after_step_and_others, rest_behind_steps, behind_steps, step_item, repeat_item, item_of}
use Rattle.vga_script.specs.Beginning.{item_followed_by_rest, items_from, items_in, version_of, script_of_bytes}
use Rattle.vga_script.specs.Spelling.{opcode_end, spelling, item_spelling, StartsWithStep, StartsWithItem, SpellsSteps, SpellsItems, Spells}
use Rattle.vga_script.proofs.FieldLemmas.{two_back}
use Rattle.vga_script.proofs.OptionLemmas.{just}
use Rattle.vga_script.proofs.GrammarLemmas.{step_back, one_step, some_byte, one_item, some_item_byte}

-- a step has at least one byte
has_bytes : (s : Step) → 1 ≤ length (spelling s)
has_bytes (Out port value) = omega arith
has_bytes (OutWord port value) = omega arith
has_bytes (In port) = omega arith
has_bytes (InWord port) = omega arith
has_bytes (Put address value) = omega arith
has_bytes (PutWord address value) = omega arith
has_bytes (Get address) = omega arith
has_bytes (GetWord address) = omega arith
has_bytes (Int ax bx cx dx block) = omega arith
has_bytes (Advance dots) = omega arith
has_bytes Frame = omega arith
has_bytes (Show what) = omega arith

-- so there are no more steps than bytes
pub few_steps : (bytes : List ℕ) (steps : List Step) → SpellsSteps bytes steps → length steps ≤ length bytes
few_steps bytes [] e = omega arith
few_steps bytes (s ∷ steps) (rest, (fits, whole), more) =
    let l = ap length whole ∙ length-append (spelling s) rest in
    let first = has_bytes s in
    let others = few_steps rest steps more in omega arith

-- a step at the prefix leaves less
pub step_shorter : (bytes others : List ℕ) (s : Step) → StartsWithStep bytes s others → length others < length bytes
step_shorter bytes others s (fits, whole) =
    let l = ap length whole ∙ length-append (spelling s) others in
    let some = has_bytes s in omega arith

-- ---- steps

-- the steps that bytes spell are read back from them
read_back : (most : ℕ) (bytes : List ℕ) (steps : List Step) → SpellsSteps bytes steps → length steps ≤ most → steps_from most bytes ≡ steps
read_back zero bytes [] e few = refl
read_back (suc most) bytes [] e few = ap (λ (l : List ℕ). step_followed_by_rest (step_of l) (steps_from most)) e
read_back zero bytes (s ∷ steps) h few = absurd (omega arith)
read_back (suc most) bytes (s ∷ steps) (rest, (fits, whole), more) few =
    ap (λ (read : Option (Step × List ℕ)). step_followed_by_rest read (steps_from most)) (ap step_of whole ∙ step_back s rest fits)
    ∙ ap (λ (l : List Step). s ∷ l) (read_back most rest steps more (omega arith))

pub steps_are : (bytes : List ℕ) (steps : List Step) → SpellsSteps bytes steps → steps_in bytes ≡ steps
unfolding steps_in
steps_are bytes steps h = read_back (length bytes) bytes steps h (few_steps bytes steps h)

-- so bytes that spell steps spell those
pub spells_in : (bytes : List ℕ) (steps : List Step) → SpellsSteps bytes steps → SpellsSteps bytes (steps_in bytes)
spells_in bytes steps h = subst (SpellsSteps bytes) (sym (steps_are bytes steps h)) h

-- the first of them, and the others
pub first_read : (bytes others : List ℕ) (steps : List Step) (step : Step) → SpellsSteps bytes steps → StartsWithStep bytes step others →
    (steps_in bytes ≡ step ∷ steps_in others) × SpellsSteps others (steps_in others)
first_read bytes others [] step e (fits, whole) = absurd (some_byte step others fits (sym whole ∙ e))
first_read bytes others (s ∷ steps) step (rest, (fits', whole'), more) (fits, whole) =
    let one = one_step step s others rest fits fits' (sym whole ∙ whole') in
    let left : SpellsSteps others steps = subst (λ (l : List ℕ). SpellsSteps l steps) (sym one.1) more in (
      steps_are bytes (s ∷ steps) (rest, (fits', whole'), more) ∙ ap (λ (x : Step). x ∷ steps) (sym one.0)
          ∙ ap (λ (l : List Step). step ∷ l) (sym (steps_are others steps left)),
      spells_in others steps left,
    )

-- ---- items

behind_read : (most : ℕ) (bytes : List ℕ) (read : Step × List ℕ) → step_of bytes ≡ just read → rest_behind_steps (suc most) bytes ≡ rest_behind_steps most read.1
behind_read most bytes read e = ap (λ (r : Option (Step × List ℕ)). rest_after_step_and_others r (rest_behind_steps most) bytes) e

-- the steps of a repeat are read back up to its end, and so is what follows them
body_from : (most : ℕ) (steps : List Step) (x : List ℕ) → AreInRange steps → length steps ≤ most
    → (steps_from most (flat_map spelling steps ++ opcode_end ∷ x) ≡ steps) × (rest_behind_steps most (flat_map spelling steps ++ opcode_end ∷ x) ≡ opcode_end ∷ x)
body_from zero [] x all few = (refl, refl)
body_from (suc most) [] x all few = (refl, refl)
body_from zero (s ∷ steps) x all few = absurd (omega arith)
body_from (suc most) (s ∷ steps) x (fits, all) few =
    let rest = flat_map spelling steps ++ opcode_end ∷ x in
    let others = body_from most steps x all (omega arith) in
    let whole = append_assoc (spelling s) (flat_map spelling steps) (opcode_end ∷ x) in
    let read = ap step_of whole ∙ step_back s rest fits in (
      ap (λ (r : Option (Step × List ℕ)). step_followed_by_rest r (steps_from most)) read ∙ ap (λ (l : List Step). s ∷ l) others.0,
      behind_read most ((spelling s ++ flat_map spelling steps) ++ opcode_end ∷ x) (s, rest) read ∙ others.1,
    )

few_in : (steps : List Step) (x : List ℕ) → length steps ≤ length (flat_map spelling steps ++ x)
few_in [] x = omega arith
few_in (s ∷ steps) x =
    let whole = length-append (spelling s ++ flat_map spelling steps) x in
    let first = length-append (spelling s) (flat_map spelling steps) in
    let rest = length-append (flat_map spelling steps) x in
    let some = has_bytes s in
    let others = few_in steps x in omega arith

pub body_back : (steps : List Step) (x : List ℕ) → AreInRange steps
    → (steps_in (flat_map spelling steps ++ opcode_end ∷ x) ≡ steps) × (behind_steps (flat_map spelling steps ++ opcode_end ∷ x) ≡ opcode_end ∷ x)
unfolding steps_in behind_steps
body_back steps x all = body_from (length (flat_map spelling steps ++ opcode_end ∷ x)) steps x all (few_in steps (opcode_end ∷ x))

-- an item that was read
abbrev item_and : Item → List ℕ → Option (Item × List ℕ)
item_and i rest = Some (i, rest)

-- a step is read as an item
step_as_item : (s : Step) (x : List ℕ) → item_of (spelling s ++ x) ≡ step_item (step_of (spelling s ++ x))
step_as_item (Out port value) x = refl
step_as_item (OutWord port value) x = refl
step_as_item (In port) x = refl
step_as_item (InWord port) x = refl
step_as_item (Put address value) x = refl
step_as_item (PutWord address value) x = refl
step_as_item (Get address) x = refl
step_as_item (GetWord address) x = refl
step_as_item (Int ax bx cx dx block) x = refl
step_as_item (Advance dots) x = refl
step_as_item Frame x = refl
step_as_item (Show what) x = refl

-- the item that was written is read back
pub item_back : (version : Version) (i : Item) (x : List ℕ) → IsItemOf version i → item_of (item_spelling i ++ x) ≡ item_and i x
item_back version (Once s) x fits = step_as_item s x ∙ ap step_item (step_back s x fits)
item_back version (Repeated count steps) x (allowed, some, small, range) =
    let body = flat_map spelling steps ++ opcode_end ∷ x in
    let grouped : (flat_map spelling steps ++ opcode_end ∷ []) ++ x ≡ body = append_assoc (flat_map spelling steps) (opcode_end ∷ []) x in
    let back = body_back steps x range in
    ap (λ (l : List ℕ). repeat_item (little_number 2 (little_bytes 2 count ++ l)) l) grouped ∙ ap (λ (n : ℕ). repeat_item n body) (two_back count body small)
    ∙ ap (λ (l : List Step). item_and (Repeated count l) (drop 1 (behind_steps body))) back.0
    ∙ ap (λ (l : List ℕ). item_and (Repeated count steps) (drop 1 l)) back.1

-- an item has at least one byte
pub item_bytes : (i : Item) → 1 ≤ length (item_spelling i)
item_bytes (Once s) = has_bytes s
item_bytes (Repeated count steps) = omega arith

-- and one at the prefix leaves less
pub item_shorter : (version : Version) (bytes others : List ℕ) (i : Item) → StartsWithItem version bytes i others → length others < length bytes
item_shorter version bytes others i (fits, whole) =
    let l = ap length whole ∙ length-append (item_spelling i) others in
    let some = item_bytes i in omega arith

-- so there are no more items than bytes
few_items : (version : Version) (bytes : List ℕ) (items : List Item) → SpellsItems version bytes items → length items ≤ length bytes
few_items version bytes [] e = omega arith
few_items version bytes (i ∷ items) (rest, (fits, whole), more) =
    let l = ap length whole ∙ length-append (item_spelling i) rest in
    let first = item_bytes i in
    let others = few_items version rest items more in omega arith

-- the items that bytes spell are read back from them
items_back : (version : Version) (most : ℕ) (bytes : List ℕ) (items : List Item) → SpellsItems version bytes items → length items ≤ most →
    items_from most bytes ≡ items
items_back version zero bytes [] e few = refl
items_back version (suc most) bytes [] e few = ap (λ (l : List ℕ). item_followed_by_rest (item_of l) (items_from most)) e
items_back version zero bytes (i ∷ items) h few = absurd (omega arith)
items_back version (suc most) bytes (i ∷ items) (rest, (fits, whole), more) few =
    ap (λ (read : Option (Item × List ℕ)). item_followed_by_rest read (items_from most)) (ap item_of whole ∙ item_back version i rest fits)
    ∙ ap (λ (l : List Item). i ∷ l) (items_back version most rest items more (omega arith))

pub items_are : (version : Version) (bytes : List ℕ) (items : List Item) → SpellsItems version bytes items → items_in bytes ≡ items
unfolding items_in
items_are version bytes items h = items_back version (length bytes) bytes items h (few_items version bytes items h)

pub spells_items_in : (version : Version) (bytes : List ℕ) (items : List Item) → SpellsItems version bytes items → SpellsItems version bytes (items_in bytes)
spells_items_in version bytes items h = subst (SpellsItems version bytes) (sym (items_are version bytes items h)) h

-- the first of them, and the others
pub first_item : (version : Version) (bytes others : List ℕ) (items : List Item) (i : Item) → SpellsItems version bytes items →
    StartsWithItem version bytes i others
    → (items_in bytes ≡ i ∷ items_in others) × SpellsItems version others (items_in others)
first_item version bytes others [] i e (fits, whole) = absurd (some_item_byte version i others fits (sym e ∙ whole))
first_item version bytes others (j ∷ items) i (rest, (fits', whole'), more) (fits, whole) =
    let one = one_item version i j others rest fits fits' (sym whole ∙ whole') in
    let left : SpellsItems version others items = subst (λ (l : List ℕ). SpellsItems version l items) (sym one.1) more in (
      items_are version bytes (j ∷ items) (rest, (fits', whole'), more) ∙ ap (λ (x : Item). x ∷ items) (sym one.0)
          ∙ ap (λ (l : List Item). i ∷ l) (sym (items_are version others items left)),
      spells_items_in version others items left,
    )

-- ---- scripts

-- the byte of a version is its own
version_back : (version : Version) → version_of (version_byte version) ≡ version
version_back One = refl
version_back Two = refl

-- the bytes of a script tell it
pub listing_back : (bytes : List ℕ) (script : ScriptItems) → Spells bytes script → script_of_bytes bytes ≡ script
unfolding script_of_bytes
listing_back bytes script (rest, whole, good, few) =
    ap (λ (l : List ℕ). script_of_items (version_of (get_or l 4 0)) (items_in (drop 5 l))) whole
    ∙ ap (λ (v : Version). script_of_items v (items_in rest)) (version_back script.version)
    ∙ ap (script_of_items script.version) (items_are script.version rest script.items good)

-- so they spell what they are read as
pub spells_itself : (bytes : List ℕ) → (script : ScriptItems) × Spells bytes script → Spells bytes (script_of_bytes bytes)
spells_itself bytes (script, h) = subst (Spells bytes) (sym (listing_back bytes script h)) h
