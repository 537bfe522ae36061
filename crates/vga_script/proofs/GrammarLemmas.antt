-- No bytes spell two scripts, and no script has two spellings.
use Rattle.std.proofs.Common.{◌≡◌, ℕ, ◌<◌, ◌≤◌, ◌^◌, arith, List, [], ◌∷◌, ◌++◌, length, drop, Some, None, refl, sym, ap, ◌∙◌, subst₂, append_assoc, inl, inr}
use Rattle.std.proofs.lemmas.List.{take_at, drop_at}
use Rattle.std.specs.List.{flat_map}
use Rattle.byteorder.specs.Endian.{little_bytes, little_number}
use Rattle.vga_script.specs.declared.step.Step.{Step}
use Rattle.vga_script.specs.declared.step.Step.TheVariants.{Out, OutWord, In, InWord, Put, PutWord, Get, GetWord, Int, Advance, Frame, Show}
use Rattle.vga_script.specs.declared.dump_range.Shown.TheVariants as shown
use Rattle.vga_script.specs.Item.{Item, Once, Repeated, ScriptItems, expanded, step_limit, IsItemOf, AreItemsOf}
use Rattle.vga_script.specs.declared.version.Version.{Version}
use Rattle.vga_script.specs.Beginning.{call_at, step_of_opcode, step_of}
use Rattle.vga_script.specs.Step.{IsInRange, AreInRange}
use Rattle.vga_script.specs.Version.{version_byte}
use Rattle.vga_script.specs.Spelling.{header, opcode_repeat, opcode_end, spelling, item_spelling, encoding, SpellsSteps, SpellsItems, Spells}
use Rattle.vga_script.proofs.PrefixLemmas.{Compared, compare}
use Rattle.vga_script.proofs.ItemLemmas.{one_version, one_listing}
use Rattle.vga_script.proofs.FieldLemmas.{two_back, four_back}
use Rattle.vga_script.proofs.OptionLemmas.{just, some_is, not_both}

-- ---- the step at the prefix of some bytes

-- no step begins where no byte is
no_step : (p : Step × List ℕ) → step_of [] ≡ just p → ⊥
no_step p e = absurd (cc)

-- a dump of a plane that was written is read back, and need not be in range
pub plane_back : (plane offset count : ℕ) (x : List ℕ) → offset < 2 ^ 16 → count < 2 ^ 16 →
    step_of (spelling (Show (shown.Plane plane offset count)) ++ x) ≡ Some (Show (shown.Plane plane offset count), x)
plane_back plane offset count x ho hn =
    ap (λ (o : ℕ). just (Show (shown.Plane plane o (little_number 2 (little_bytes 2 count ++ x))), x)) (two_back offset (little_bytes 2 count ++ x) ho)
    ∙ ap (λ (n : ℕ). just (Show (shown.Plane plane offset n), x)) (two_back count x hn)

-- the step that was written is read back
pub step_back : (s : Step) (x : List ℕ) → IsInRange s → step_of (spelling s ++ x) ≡ Some (s, x)
step_back (Out port value) x (hp, hv) = ap (λ (p : ℕ). just (Out p value, x)) (two_back port (value ∷ x) hp)
step_back (OutWord port value) x (hp, hv) =
    ap (λ (p : ℕ). just (OutWord p (little_number 2 (little_bytes 2 value ++ x)), x)) (two_back port (little_bytes 2 value ++ x) hp)
    ∙ ap (λ (v : ℕ). just (OutWord port v, x)) (two_back value x hv)
step_back (In port) x hp = ap (λ (p : ℕ). just (In p, x)) (two_back port x hp)
step_back (InWord port) x hp = ap (λ (p : ℕ). just (InWord p, x)) (two_back port x hp)
step_back (Put address value) x (ha, hv) = ap (λ (a : ℕ). just (Put a value, x)) (four_back address (value ∷ x) ha)
step_back (PutWord address value) x (ha, hv) =
    ap (λ (a : ℕ). just (PutWord a (little_number 2 (little_bytes 2 value ++ x)), x)) (four_back address (little_bytes 2 value ++ x) ha)
    ∙ ap (λ (v : ℕ). just (PutWord address v, x)) (two_back value x hv)
step_back (Get address) x ha = ap (λ (a : ℕ). just (Get a, x)) (four_back address x ha)
step_back (GetWord address) x ha = ap (λ (a : ℕ). just (GetWord a, x)) (four_back address x ha)
step_back (Int ax bx cx dx block) x (ha, hb, hc, hd, (hl, all)) =
    let a = little_bytes 2 ax in
    let b = little_bytes 2 bx in
    let c = little_bytes 2 cx in
    let d = little_bytes 2 dx in
    let l = little_bytes 2 (length block) in
    let rest = block ++ x in
    ap (λ (n : ℕ). call_at n (little_number 2 (b ++ (c ++ (d ++ (l ++ rest))))) (little_number 2 (c ++ (d ++ (l ++ rest)))) (little_number 2 (d ++ (l ++ rest)))
    (little_number 2 (l ++ rest)) rest) (two_back ax (b ++ (c ++ (d ++ (l ++ rest)))) ha)
    ∙ ap (λ (n : ℕ). call_at ax n (little_number 2 (c ++ (d ++ (l ++ rest)))) (little_number 2 (d ++ (l ++ rest))) (little_number 2 (l ++ rest)) rest)
    (two_back bx (c ++ (d ++ (l ++ rest))) hb)
    ∙ ap (λ (n : ℕ). call_at ax bx n (little_number 2 (d ++ (l ++ rest))) (little_number 2 (l ++ rest)) rest) (two_back cx (d ++ (l ++ rest)) hc)
    ∙ ap (λ (n : ℕ). call_at ax bx cx n (little_number 2 (l ++ rest)) rest) (two_back dx (l ++ rest) hd)
    ∙ ap (λ (n : ℕ). call_at ax bx cx dx n rest) (two_back (length block) rest hl)
    ∙ rw (take_at block x (length block) refl, drop_at block x (length block) refl) refl
step_back (Advance dots) x hd = ap (λ (n : ℕ). just (Advance n, x)) (four_back dots x hd)
step_back Frame x fits = refl
step_back (Show shown.Registers) x fits = refl
step_back (Show (shown.Dac index)) x fits = refl
step_back (Show shown.Beam) x fits = refl
step_back (Show shown.Latches) x fits = refl
step_back (Show (shown.Plane plane offset count)) x (four, some, most, within) = plane_back plane offset count x (omega arith) (omega arith)
step_back (Show shown.BiosData) x fits = refl
step_back (Show shown.Cells) x fits = refl

-- the prefix of some bytes determines the step that it spells
pub one_step : (s t : Step) (x y : List ℕ) → IsInRange s → IsInRange t → spelling s ++ x ≡ spelling t ++ y → (s ≡ t) × (x ≡ y)
one_step s t x y fits fits' e =
    let same : (s, x) ≡ (t, y) = some_is (s, x) (t, y) (sym (step_back s x fits) ∙ ap step_of e ∙ step_back t y fits') in
    (ap (λ (p : Step × List ℕ). p.0) same, ap (λ (p : Step × List ℕ). p.1) same)

-- a step has at least one byte
pub some_byte : (s : Step) (x : List ℕ) → IsInRange s → spelling s ++ x ≡ [] → ⊥
some_byte s x fits e = no_step (s, x) (sym (ap step_of e) ∙ step_back s x fits)

-- no step begins with an opcode that is none
pub no_step_of : (opcode : ℕ) (more : List ℕ) (s : Step) (x : List ℕ) → IsInRange s → step_of_opcode opcode more ≡ None → opcode ∷ more ≡ spelling s ++ x → ⊥
no_step_of opcode more s x fits none e = not_both (step_of (spelling s ++ x)) (s, x) (step_back s x fits) (sym (ap step_of e) ∙ none)

-- steps that bytes spell are in range, and the bytes are theirs
pub steps_range : (bytes : List ℕ) (steps : List Step) → SpellsSteps bytes steps → AreInRange steps
steps_range bytes [] e = tt
steps_range bytes (s ∷ steps) (rest, (fits, whole), more) = (fits, steps_range rest steps more)

pub spelled_steps : (bytes : List ℕ) (steps : List Step) → SpellsSteps bytes steps → bytes ≡ flat_map spelling steps
spelled_steps bytes [] e = e
spelled_steps bytes (s ∷ steps) (rest, (fits, whole), more) = whole ∙ ap (λ (l : List ℕ). spelling s ++ l) (spelled_steps rest steps more)

pub encoded_steps : (steps : List Step) → AreInRange steps → SpellsSteps (flat_map spelling steps) steps
encoded_steps [] all = refl
encoded_steps (s ∷ steps) (fits, others) = (flat_map spelling steps, (fits, refl), encoded_steps steps others)

-- ---- the item at the prefix of some bytes

-- the prefix of some bytes determines the item that it spells
pub one_item : (version : Version) (a b : Item) (x y : List ℕ) → IsItemOf version a → IsItemOf version b → item_spelling a ++ x ≡ item_spelling b ++ y → (a ≡ b)
    × (x ≡ y)
one_item version (Once s) (Once t) x y fits fits' e = let same = one_step s t x y fits fits' e in (ap Once same.0, same.1)
one_item version (Once s) (Repeated m ts) x y fits fits' e = absurd (no_step_of opcode_repeat _ s x fits refl (sym e))
one_item version (Repeated n ss) (Once t) x y fits fits' e = absurd (no_step_of opcode_repeat _ t y fits' refl e)
one_item version (Repeated n ss) (Repeated m ts) x y (allowed, some, small, range) (allowed', some', small', range') e =
    let count : n ≡ m =
    sym (two_back n ((flat_map spelling ss ++ opcode_end ∷ []) ++ x) small) ∙ ap (λ (l : List ℕ). little_number 2 (drop 1 l)) e
    ∙ two_back m ((flat_map spelling ts ++ opcode_end ∷ []) ++ y) small' in
    let bodies : flat_map spelling ss ++ opcode_end ∷ x ≡ flat_map spelling ts ++ opcode_end ∷ y =
    sym (append_assoc (flat_map spelling ss) (opcode_end ∷ []) x) ∙ ap (drop 3) e ∙ append_assoc (flat_map spelling ts) (opcode_end ∷ []) y in
    ended n m ss ts x y count (compare spelling IsInRange one_step ss ts (opcode_end ∷ x) (opcode_end ∷ y) range range' bodies)
  where
    ended : (n m : ℕ) (ss ts : List Step) (x y : List ℕ) → n ≡ m → Compared spelling IsInRange ss ts (opcode_end ∷ x) (opcode_end ∷ y) →
        (Repeated n ss ≡ Repeated m ts) × (x ≡ y)
    ended n m ss ts x y count (inl (same, rests)) = (cc, cc)
    ended n m ss ts x y count (inr (inl (next, others, is, fits, rests))) = absurd (no_step_of opcode_end x next _ fits refl rests)
    ended n m ss ts x y count (inr (inr (next, others, is, fits, rests))) = absurd (no_step_of opcode_end y next _ fits refl rests)

-- an item has at least one byte
pub some_item_byte : (version : Version) (a : Item) (x : List ℕ) → IsItemOf version a → [] ≡ item_spelling a ++ x → ⊥
some_item_byte version (Once s) x fits e = some_byte s x fits (sym e)
some_item_byte version (Repeated n ss) x fits e = absurd (cc)

-- items that bytes spell are those of a script, and the bytes are theirs
pub items_fit : (version : Version) (bytes : List ℕ) (items : List Item) → SpellsItems version bytes items → AreItemsOf version items
items_fit version bytes [] e = tt
items_fit version bytes (i ∷ items) (rest, (fits, whole), more) = (fits, items_fit version rest items more)

pub spelled_items : (version : Version) (bytes : List ℕ) (items : List Item) → SpellsItems version bytes items → bytes ≡ flat_map item_spelling items
spelled_items version bytes [] e = e
spelled_items version bytes (i ∷ items) (rest, (fits, whole), more) = whole ∙ ap (λ (l : List ℕ). item_spelling i ++ l) (spelled_items version rest items more)

pub encoded_items : (version : Version) (items : List Item) → AreItemsOf version items → SpellsItems version (flat_map item_spelling items) items
encoded_items version [] all = refl
encoded_items version (i ∷ items) (fits, others) = (flat_map item_spelling items, (fits, refl), encoded_items version items others)

-- no bytes spell two lists of items
pub one_list : (version : Version) (bytes : List ℕ) (first second : List Item) → SpellsItems version bytes first → SpellsItems version bytes second →
    first ≡ second
one_list version bytes first second p q =
    let e : flat_map item_spelling first ++ [] ≡ flat_map item_spelling second ++ [] =
    ap (λ (l : List ℕ). l ++ []) (sym (spelled_items version bytes first p) ∙ spelled_items version bytes second q) in
    all_read version first second (compare item_spelling (IsItemOf version) (one_item version) first second [] [] (items_fit version bytes first p)
    (items_fit version bytes second q) e)
  where
    all_read : (version : Version) (first second : List Item) → Compared item_spelling (IsItemOf version) first second [] [] → first ≡ second
    all_read version first second (inl (same, rests)) = same
    all_read version first second (inr (inl (next, others, is, fits, rests))) = absurd (some_item_byte version next _ fits rests)
    all_read version first second (inr (inr (next, others, is, fits, rests))) = absurd (some_item_byte version next _ fits rests)

-- no bytes begin with two headers
pub one_header : (v w : Version) (x y : List ℕ) → header v ++ x ≡ header w ++ y → (v ≡ w) × (x ≡ y)
one_header v w x y e =
    let byte : version_byte v ≡ version_byte w = cc in
    let rests : x ≡ y = cc in
    (one_version v w byte, rests)

-- no bytes spell two scripts
pub one_script_lem : (bytes : List ℕ) (first second : ScriptItems) → Spells bytes first → Spells bytes second → first ≡ second
one_script_lem bytes first second (r, w, m, few) (r', w', m', few') =
    let both = one_header first.version second.version r r' (sym w ∙ w') in
    let same : SpellsItems first.version r second.items = subst₂ (λ (v : Version) (l : List ℕ). SpellsItems v l second.items) (sym both.0) (sym both.1) m' in
    one_listing first second both.0 (one_list first.version r first.items second.items m same)

-- ---- one spelling

-- the bytes that spell a script are its encoding
pub spelled : (bytes : List ℕ) (script : ScriptItems) → Spells bytes script → bytes ≡ encoding script
spelled bytes script (rest, whole, good, few) = whole ∙ ap (λ (l : List ℕ). header script.version ++ l) (spelled_items script.version rest script.items good)

-- so no script has two spellings
pub one_spelling_lem : (x y : List ℕ) (script : ScriptItems) → Spells x script → Spells y script → x ≡ y
one_spelling_lem x y script p q = spelled x script p ∙ sym (spelled y script q)

-- and each has one
pub encoding_spells : (script : ScriptItems) → AreItemsOf script.version script.items → length (expanded script.items) ≤ step_limit →
    Spells (encoding script) script
encoding_spells script all few = (flat_map item_spelling script.items, refl, encoded_items script.version script.items all, few)
