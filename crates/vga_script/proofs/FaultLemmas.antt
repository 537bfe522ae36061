-- No bytes have two faults, and none that spell a script of allowed length have one.
use Rattle.std.proofs.Common.{◌≡◌, ◌≢◌, ◌⊎◌, ℕ, ◌+◌, ◌≤◌, List, [], ◌∷◌, ◌++◌, length, length-append, Result, Ok, Err, arith, sym, ap, ◌∙◌, subst, subst₂}
use Rattle.std.proofs.Common.{append_assoc, append-nil, inl, inr, refl}
use Rattle.std.specs.Prelude.{IfErr, IsOkUnless}
use Rattle.std.specs.List.{flat_map}
use Rattle.vga_bits.specs.declared.fault.Fault.{Fault}
use Rattle.vga_bits.specs.declared.fault.Fault.TheVariants as fault
use Rattle.vga_script.specs.Item.{Item, ScriptItems, expanded, step_limit, steps_of_item, IsItemOf, AreItemsOf}
use Rattle.vga_script.specs.declared.version.Version.{Version}
use Rattle.vga_script.specs.Version.{version_byte}
use Rattle.vga_script.specs.Spelling.{script_limit, magic, header, item_spelling, Spells}
use Rattle.vga_script.specs.Decoding.{SpellsUpTo, HasItemFault, IsSpellingFault, IsFault}
use Rattle.vga_script.proofs.PrefixLemmas.{Compared, compare}
use Rattle.vga_script.proofs.ItemLemmas.{length-expanded-append, length-expanded-cons}
use Rattle.vga_script.proofs.GrammarLemmas.{one_item, some_item_byte, items_fit, spelled_items, one_header}
use Rattle.vga_script.proofs.ItemFaultLemmas.{Kinds, kind, item_or_kind, one_kind, kind_at_end}

-- ---- where the first fault stands

-- the items before a place of a script, and what stands there
record StandsAt (bytes : List ℕ) (version : Version) (items : List Item) (offset : ℕ) (rest : List ℕ) : Type 0 where
  whole : bytes ≡ header version ++ (flat_map item_spelling items ++ rest)
  fits : AreItemsOf version items
  few : length (expanded items) ≤ step_limit
  place : offset + length rest ≡ length bytes

stands_at : (bytes : List ℕ) (script : ScriptItems) (offset : ℕ) (rest : List ℕ) → SpellsUpTo bytes script offset rest →
    StandsAt bytes script.version script.items offset rest
stands_at bytes script offset rest h = record {
  whole = h.whole ∙ ap (λ (l : List ℕ). l ++ rest) (h.good.1 ∙ ap (λ (l : List ℕ). header script.version
      ++ l) (spelled_items script.version h.good.0 script.items h.good.2)) ∙ append_assoc (header script.version) (flat_map item_spelling script.items) rest;
  fits = items_fit script.version h.good.0 script.items h.good.2;
  few = h.good.3;
  place = let whole = ap length h.whole ∙ length-append h.prefix rest in let place = h.place in omega arith;
}

-- items that go on with one more stay within the limit with it
within_limit : (items others : List Item) (i : Item) (longer : List Item) → longer ≡ items ++ i ∷ others → length (expanded longer) ≤ step_limit →
    length (expanded items) + length (steps_of_item i) ≤ step_limit
within_limit items others i longer e few =
    let len = ap (λ (l : List Item). length (expanded l)) e in
    let whole = length-expanded-append items (i ∷ others) in
    let first = length-expanded-cons i others in omega arith

-- two places with a fault are one
same_place : (bytes : List ℕ) (version : Version) (items items' : List Item) (offset offset' : ℕ) (rest rest' : List ℕ) (f g : Fault) →
    StandsAt bytes version items offset rest → StandsAt bytes version items' offset' rest'
    → Kinds version (length (expanded items)) offset rest f → Kinds version (length (expanded items')) offset' rest' g
    → Compared item_spelling (IsItemOf version) items items' rest rest' → f ≡ g
same_place bytes version items items' offset offset' rest rest' f g h h' k k' (inl (same, rests)) =
    let len = ap length rests in
    let place = h.place in
    let place' = h'.place in
    let at : offset' ≡ offset = omega arith in
    let so_far = ap (λ (l : List Item). length (expanded l)) same in
    one_kind version (length (expanded items)) offset rest f g k
    (subst (λ (n : ℕ). Kinds version n offset rest g) (sym so_far) (subst₂ (λ (n : ℕ) (l : List ℕ). Kinds version (length (expanded items')) n l g) at
    (sym rests) k'))
same_place bytes version items items' offset offset' rest rest' f g h h' k k' (inr (inl (next, others, is, fits, rests))) =
    absurd (item_or_kind version (length (expanded items)) offset rest f next _ k (fits, rests) (within_limit items others next items' is h'.few))
same_place bytes version items items' offset offset' rest rest' f g h h' k k' (inr (inr (next, others, is, fits, rests))) =
    absurd (item_or_kind version (length (expanded items')) offset' rest' g next _ k' (fits, rests) (within_limit items' others next items is h.few))

-- the first fault of an item is one
one_place : (bytes : List ℕ) (version version' : Version) (items items' : List Item) (offset offset' : ℕ) (rest rest' : List ℕ) (f g : Fault) →
    StandsAt bytes version items offset rest → StandsAt bytes version' items' offset' rest'
    → Kinds version (length (expanded items)) offset rest f → Kinds version' (length (expanded items')) offset' rest' g → f ≡ g
one_place bytes version version' items items' offset offset' rest rest' f g h h' k k' =
    let both = one_header version version' (flat_map item_spelling items ++ rest) (flat_map item_spelling items' ++ rest') (sym h.whole ∙ h'.whole) in
    let there : StandsAt bytes version items' offset' rest' = subst (λ (v : Version). StandsAt bytes v items' offset' rest') (sym both.0) h' in
    let bad : Kinds version (length (expanded items')) offset' rest' g = subst (λ (v : Version). Kinds v (length (expanded items')) offset' rest' g)
    (sym both.0) k' in
    same_place bytes version items items' offset offset' rest rest' f g h there k bad
    (compare item_spelling (IsItemOf version) (one_item version) items items' rest rest' h.fits there.fits both.1)

one_item_fault : (bytes : List ℕ) (f g : Fault) → HasItemFault bytes f → HasItemFault bytes g → f ≡ g
one_item_fault bytes f g (script, offset, rest, up, bad) (script', offset', rest', up', bad') =
    one_place bytes script.version script'.version script.items script'.items offset offset' rest rest' f g (stands_at bytes script offset rest up)
    (stands_at bytes script' offset' rest' up')
    (kind script.version (length (expanded script.items)) offset rest f bad) (kind script'.version (length (expanded script'.items)) offset' rest' g bad')

-- bytes with a fault of an item begin with a header
item_prefix : (bytes : List ℕ) (f : Fault) → HasItemFault bytes f → (version : Version) × (rest : List ℕ) × (bytes ≡ magic ++ version_byte version ∷ rest)
item_prefix bytes f (script, offset, rest, up, bad) = (script.version, _, (stands_at bytes script offset rest up).whole)

-- ---- the faults of bytes

-- they are those of the header, or of an item
abbrev Faults : List ℕ → Fault → Type 0
Faults bytes f =
    ((f ≡ fault.BadMagic) × ((rest : List ℕ) → bytes ≢ magic ++ rest))
    ⊎ (((f ≡ fault.BadVersion) × ((other : ℕ) × (rest : List ℕ) × (bytes ≡ magic ++ other ∷ rest) × ((version : Version) → other ≢ version_byte version)))
    ⊎ (((f ≡ fault.Truncated 4) × (bytes ≡ magic)) ⊎ HasItemFault bytes f))

faults : (bytes : List ℕ) (f : Fault) → IsSpellingFault bytes f → Faults bytes f
faults bytes fault.BadMagic h = inl (refl, h)
faults bytes fault.BadVersion h = inr (inl (refl, h))
faults bytes (fault.BadStep at) h = inr (inr (inr h))
faults bytes (fault.Truncated at) (inl (short, place)) = inr (inr (inl (ap fault.Truncated place, short)))
faults bytes (fault.Truncated at) (inr h) = inr (inr (inr h))
faults bytes (fault.TooMany at) h = inr (inr (inr h))
faults bytes _ h = absurd h

-- a byte of no version is that of none
no_version : (bytes rest more : List ℕ) (other : ℕ) (version : Version) → bytes ≡ magic ++ other ∷ rest → ((v : Version) → other ≢ version_byte v) →
    bytes ≡ magic ++ version_byte version ∷ more → ⊥
no_version bytes rest more other version e none prefix =
    let both : magic ++ other ∷ rest ≡ magic ++ version_byte version ∷ more = sym e ∙ prefix in
    let same : other ≡ version_byte version = cc in
    none version same

-- bytes that go on after the letters
goes_on : (bytes x : List ℕ) (v : ℕ) → bytes ≡ magic ++ v ∷ x → bytes ≡ magic → ⊥
goes_on bytes x v e short = let both : magic ++ v ∷ x ≡ magic = sym e ∙ short in absurd (cc)

-- no bytes have two faults
one_of_faults : (bytes : List ℕ) (f g : Fault) → Faults bytes f → Faults bytes g → f ≡ g
one_of_faults bytes f g (inl (is, none)) (inl (is', none')) = is ∙ sym is'
one_of_faults bytes f g (inl (is, none)) (inr (inl (is', (other, rest, e, unknown)))) = absurd (none (other ∷ rest) e)
one_of_faults bytes f g (inl (is, none)) (inr (inr (inl (is', short)))) = absurd (none [] short)
one_of_faults bytes f g (inl (is, none)) (inr (inr (inr h))) = let prefix = item_prefix bytes g h in absurd (none _ prefix.2)
one_of_faults bytes f g (inr (inl (is, (other, rest, e, unknown)))) (inl (is', none)) = absurd (none (other ∷ rest) e)
one_of_faults bytes f g (inr (inl (is, bad))) (inr (inl (is', bad'))) = is ∙ sym is'
one_of_faults bytes f g (inr (inl (is, (other, rest, e, unknown)))) (inr (inr (inl (is', short)))) = absurd (goes_on bytes rest other e short)
one_of_faults bytes f g (inr (inl (is, (other, rest, e, unknown)))) (inr (inr (inr h))) = let prefix = item_prefix bytes g h in
    absurd (no_version bytes rest prefix.1 other prefix.0 e unknown prefix.2)
one_of_faults bytes f g (inr (inr (inl (is, short)))) (inl (is', none)) = absurd (none [] short)
one_of_faults bytes f g (inr (inr (inl (is, short)))) (inr (inl (is', (other, rest, e, unknown)))) = absurd (goes_on bytes rest other e short)
one_of_faults bytes f g (inr (inr (inl (is, short)))) (inr (inr (inl (is', short')))) = is ∙ sym is'
one_of_faults bytes f g (inr (inr (inl (is, short)))) (inr (inr (inr h))) = let prefix = item_prefix bytes g h in
    absurd (goes_on bytes prefix.1 (version_byte prefix.0) prefix.2 short)
one_of_faults bytes f g (inr (inr (inr h))) (inl (is', none)) = let prefix = item_prefix bytes f h in absurd (none _ prefix.2)
one_of_faults bytes f g (inr (inr (inr h))) (inr (inl (is', (other, rest, e, unknown)))) = let prefix = item_prefix bytes f h in
    absurd (no_version bytes rest prefix.1 other prefix.0 e unknown prefix.2)
one_of_faults bytes f g (inr (inr (inr h))) (inr (inr (inl (is', short)))) = let prefix = item_prefix bytes f h in
    absurd (goes_on bytes prefix.1 (version_byte prefix.0) prefix.2 short)
one_of_faults bytes f g (inr (inr (inr h))) (inr (inr (inr h'))) = one_item_fault bytes f g h h'

-- a script has no item with a fault
no_item_fault : (bytes : List ℕ) (version version' : Version) (items items' : List Item) (offset : ℕ) (rest : List ℕ) (f : Fault) →
    StandsAt bytes version items (length bytes) [] → StandsAt bytes version' items' offset rest
    → Kinds version' (length (expanded items')) offset rest f → ⊥
no_item_fault bytes version version' items items' offset rest f h h' k' =
    let both = one_header version version' (flat_map item_spelling items ++ []) (flat_map item_spelling items' ++ rest) (sym h.whole ∙ h'.whole) in
    let there : StandsAt bytes version items' offset rest = subst (λ (v : Version). StandsAt bytes v items' offset rest) (sym both.0) h' in
    let bad : Kinds version (length (expanded items')) offset rest f = subst (λ (v : Version). Kinds v (length (expanded items')) offset rest f) (sym both.0)
    k' in
    nowhere bytes version items items' offset rest f h bad (compare item_spelling (IsItemOf version) (one_item version) items items' [] rest h.fits there.fits
    both.1)
  where
    nowhere : (bytes : List ℕ) (version : Version) (items items' : List Item) (offset : ℕ) (rest : List ℕ) (f : Fault) →
        StandsAt bytes version items (length bytes) [] → Kinds version (length (expanded items')) offset rest f
        → Compared item_spelling (IsItemOf version) items items' [] rest → ⊥
    nowhere bytes version items items' offset rest f h k (inl (same, rests)) = kind_at_end version (length (expanded items')) offset rest f (sym rests) k
    nowhere bytes version items items' offset rest f h k (inr (inl (next, others, is, fits, rests))) = some_item_byte version next _ fits rests
    nowhere bytes version items items' offset rest f h k (inr (inr (next, others, is, fits, rests))) =
        item_or_kind version (length (expanded items')) offset rest f next _ k (fits, rests) (within_limit items' others next items is h.few)

-- the whole of a script stands before its end
stands_whole : (bytes : List ℕ) (script : ScriptItems) → Spells bytes script → StandsAt bytes script.version script.items (length bytes) []
stands_whole bytes script (rest, whole, good, few) = record {
  whole = whole ∙ ap (λ (l : List ℕ). header script.version ++ l) (spelled_items script.version rest script.items good
      ∙ sym (append-nil (flat_map item_spelling script.items)));
  fits = items_fit script.version rest script.items good;
  few = few;
  place = omega arith;
}

-- so no bytes that spell a script have a fault
no_fault_of : (bytes : List ℕ) (script : ScriptItems) (f : Fault) → Spells bytes script → Faults bytes f → ⊥
no_fault_of bytes script f (r, w, m, few) (inl (is, none)) = none (version_byte script.version ∷ r) w
no_fault_of bytes script f (r, w, m, few) (inr (inl (is, (other, rest, e, unknown)))) = no_version bytes rest r other script.version e unknown w
no_fault_of bytes script f (r, w, m, few) (inr (inr (inl (is, short)))) = goes_on bytes r (version_byte script.version) w short
no_fault_of bytes script f good (inr (inr (inr (script', offset, rest, up, bad)))) =
    no_item_fault bytes script.version script'.version script.items script'.items offset rest f (stands_whole bytes script good)
    (stands_at bytes script' offset rest up)
    (kind script'.version (length (expanded script'.items)) offset rest f bad)

-- ---- with the bound on the length

-- no bytes have two faults
pub one_fault_lem : (bytes : List ℕ) (f g : Fault) → IsFault bytes f → IsFault bytes g → f ≡ g
one_fault_lem bytes f g (inl (is, long)) (inl (is', long')) = is ∙ sym is'
one_fault_lem bytes f g (inl (is, long)) (inr (short, bad)) = absurd (omega arith)
one_fault_lem bytes f g (inr (short, bad)) (inl (is, long)) = absurd (omega arith)
one_fault_lem bytes f g (inr (short, bad)) (inr (short', bad')) = one_of_faults bytes f g (faults bytes f bad) (faults bytes g bad')

-- bytes that spell a script have no other fault than that they are too long
pub no_other_fault : (bytes : List ℕ) (script : ScriptItems) (f : Fault) → Spells bytes script → IsFault bytes f → f ≡ fault.TooLong
no_other_fault bytes script f good (inl (is, long)) = is
no_other_fault bytes script f good (inr (short, bad)) = absurd (no_fault_of bytes script f good (faults bytes f bad))

no_fault : (bytes : List ℕ) (script : ScriptItems) (f : Fault) → length bytes ≤ script_limit → Spells bytes script → IsFault bytes f → ⊥
no_fault bytes script f small good (inl (is, long)) = absurd (omega arith)
no_fault bytes script f small good (inr (short, bad)) = no_fault_of bytes script f good (faults bytes f bad)

-- so a script of allowed length decodes, unless memory runs out
pub decodes : {X : Type 0} (bytes : List ℕ) (r : Result X Fault) → IfErr r (λ e. (e ≡ fault.OutOfMemory) ⊎ IsFault bytes e)
    → (script : ScriptItems) → length bytes ≤ script_limit → Spells bytes script → IsOkUnless r fault.OutOfMemory
decodes bytes (Ok x) h script small good = tt
decodes bytes (Err e) (inl memory) script small good = memory
decodes bytes (Err e) (inr bad) script small good = absurd (no_fault bytes script e small good bad)
