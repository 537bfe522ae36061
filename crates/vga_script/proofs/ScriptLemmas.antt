-- Scripts are in range, and not too long.
use Rattle.std.proofs.Common.{◌≡◌, ℕ, ◌^◌, ◌<◌, ◌≤◌, List, [], ◌∷◌, ◌++◌, length, map, sym, subst, arith, inl, inr, codes}
use Rattle.std.specs.List.{flat_map, AllByRecursion}
use Rattle.hex.proofs.HexLemmas.{decode_of-ok}
use Rattle.vga_script.specs.declared.step.Step.{Step}
use Rattle.vga_script.specs.declared.step.Step.TheVariants.{Out, OutWord, In, InWord, Put, PutWord, Get, GetWord, Int, Advance, Frame, Show}
use Rattle.vga_script.specs.declared.dump_range.Shown.{Shown}
use Rattle.vga_script.specs.declared.dump_range.Shown.TheVariants as shown
use Rattle.vga_script.specs.Item.{Item, Once, ScriptItems, AreItemsOf}
use Rattle.vga_script.specs.declared.version.Version.{Version}
use Rattle.vga_script.specs.Tokens.{words}
use Rattle.vga_script.specs.Text.{SpellsHex, SpellsTwoHex, SpellsRegister, SpellsBlock, SpellsShown, SpellsFields, SpellsLine, SpellsLines, LineGroup, IsLineGroup}
use Rattle.vga_script.specs.Text.{SpellsText}
use Rattle.vga_script.specs.DumpRange.{IsShownInRange}
use Rattle.vga_script.specs.Step.{IsBlock, IsInRange, AreInRange}
use Rattle.vga_script.specs.Spelling.{script_limit, encoding, Spells}
use Rattle.vga_script.specs.Script.{IsScript, SpellsTooLongScript}
use Rattle.vga_script.proofs.NumberLemmas.{hex_below}
use Rattle.vga_script.proofs.FieldLemmas.{all_bytes}
use Rattle.vga_script.proofs.ItemLemmas.{range-append}
use Rattle.vga_script.proofs.GrammarLemmas.{encoding_spells}
use Rattle.vga_script.specs.Beginning.{script_of_bytes}
use Rattle.vga_script.proofs.BeginningLemmas.{listing_back, spells_itself}

-- ---- what a text spells is in range

-- a number of at most `digits` digits
one_range : (digits : ℕ) (ws : List (List ℕ)) (n : ℕ) → SpellsHex digits ws n → n < 16 ^ digits
one_range digits ws n (word, e, hex) = hex_below digits word n hex

two_range : (digits digits' : ℕ) (ws : List (List ℕ)) (n m : ℕ) → SpellsTwoHex digits digits' ws n m → (n < 16 ^ digits) × (m < 16 ^ digits')
two_range digits digits' ws n m (word, other, e, hex, hex') = (hex_below digits word n hex, hex_below digits' other m hex')

register_range : (name : List ℕ) (ws : List (List ℕ)) (v : ℕ) → SpellsRegister name ws v → v < 2 ^ 16
register_range name ws v (inl (none, nought)) = omega arith
register_range name ws v (inr (prefix, digits, e, named, hex)) = let b = hex_below 4 digits v hex in omega arith

-- a block
block_range : (ws : List (List ℕ)) (block : List ℕ) → SpellsBlock ws block → IsBlock block
block_range ws block (inl (none, empty)) = subst IsBlock (sym empty) (omega arith, tt)
block_range ws block (inr (name, digits, e, named, some, short, read)) = (short, all_bytes block (decode_of-ok digits block read).3)

-- what is shown
shown_range : (ws : List (List ℕ)) (what : Shown) → SpellsShown ws what → IsShownInRange what
shown_range ws shown.Registers h = tt
shown_range ws (shown.Dac index) (first, rest, e, named, hex) = let r = one_range 2 rest index hex in omega arith
shown_range ws shown.Beam h = tt
shown_range ws shown.Latches h = tt
shown_range ws (shown.Plane plane offset count) (first, rest, e, named, (p, o, n, f, hp, ho, hn, within)) = within
shown_range ws shown.BiosData h = tt
shown_range ws shown.Cells h = tt

-- the fields of a step
fields_range : (ws : List (List ℕ)) (s : Step) → SpellsFields ws s → IsInRange s
fields_range ws (Out port value) h = let r = two_range 4 2 ws port value h in let first = r.0 in let second = r.1 in (omega arith, omega arith)
fields_range ws (OutWord port value) h = let r = two_range 4 4 ws port value h in let first = r.0 in let second = r.1 in (omega arith, omega arith)
fields_range ws (In port) h = let r = one_range 4 ws port h in omega arith
fields_range ws (InWord port) h = let r = one_range 4 ws port h in omega arith
fields_range ws (Put address value) h = let r = two_range 8 2 ws address value h in let first = r.0 in let second = r.1 in (omega arith, omega arith)
fields_range ws (PutWord address value) h = let r = two_range 8 4 ws address value h in let first = r.0 in let second = r.1 in (omega arith, omega arith)
fields_range ws (Get address) h = let r = one_range 8 ws address h in omega arith
fields_range ws (GetWord address) h = let r = one_range 8 ws address h in omega arith
fields_range ws (Int ax bx cx dx block) (a, b, c, d, x, e, ha, hb, hc, hd, hx) = (
  register_range (codes "ax=") a ax ha,
  register_range (codes "bx=") b bx hb,
  register_range (codes "cx=") c cx hc,
  register_range (codes "dx=") d dx hd,
  block_range x block hx,
)
fields_range ws (Advance dots) (word, e, numeral, below) = below
fields_range ws Frame none = tt
fields_range ws (Show what) h = shown_range ws what h

line_range : (ws : List (List ℕ)) (steps : List Step) → SpellsLine ws steps → AreInRange steps
line_range [] steps e = subst AreInRange (sym e) tt
line_range (w ∷ ws) steps (s, e, named, fields) = subst AreInRange (sym e) (fields_range ws s fields, tt)

lines_range : (ls : List (List ℕ)) (steps : List Step) → SpellsLines ls steps → AreInRange steps
lines_range [] steps e = subst AreInRange (sym e) tt
lines_range (l ∷ ls) steps (here, after, e, line, more) = subst AreInRange (sym e)
    (range-append here after (line_range (words l) here line) (lines_range ls after more))

-- steps as items
steps_fit : (version : Version) (steps : List Step) → AreInRange steps → AreItemsOf version (map Once steps)
steps_fit version [] all = tt
steps_fit version (s ∷ steps) (fits, all) = (fits, steps_fit version steps all)

-- items one after another
items-append : (version : Version) (a b : List Item) → AreItemsOf version a → AreItemsOf version b → AreItemsOf version (a ++ b)
items-append version [] b p q = q
items-append version (i ∷ a) b (p, ps) q = (p, items-append version a b ps q)

-- the items of a group, and of groups
group_range : (version : Version) (group : LineGroup) → IsLineGroup version group → AreItemsOf version group.items
group_range version group (inl (line, steps, ls, is, good)) = subst (AreItemsOf version) (sym is) (steps_fit version steps (line_range (words line) steps good))
group_range version group (inr (allowed, (first, count, body, steps, last, ls, is, (name, number, e, named, numeral, some, small), good, ends))) =
    subst (AreItemsOf version) (sym is) ((allowed, some, small, lines_range body steps good), tt)

groups_range : (version : Version) (groups : List LineGroup) → AllByRecursion (IsLineGroup version) groups →
    AreItemsOf version (flat_map (λ (g : LineGroup). g.items) groups)
groups_range version [] all = tt
groups_range version (g ∷ groups) (good, all) = items-append version g.items (flat_map (λ (h : LineGroup). h.items) groups) (group_range version g good)
    (groups_range version groups all)

-- the step of a line
pub line_in_range : (ws : List (List ℕ)) (step : Step) → SpellsLine ws (step ∷ []) → IsInRange step
line_in_range ws step h = (line_range ws (step ∷ []) h).0

-- the items that a text spells are those of a script of its version
text_range : (text : List ℕ) (script : ScriptItems) → SpellsText text script → AreItemsOf script.version script.items
text_range text script (n, rest, from, (groups, e, is, all), few) = subst (AreItemsOf script.version) (sym is) (groups_range script.version groups all)

-- so their bytes spell the script
pub text_bytes : (text bytes : List ℕ) (script : ScriptItems) → SpellsText text script → bytes ≡ encoding script → Spells bytes script
text_bytes text bytes script h e = subst (λ (l : List ℕ). Spells l script) (sym e) (encoding_spells script (text_range text script h) h.4)

-- and are read as it
pub text_is_script : (text bytes : List ℕ) → (script : ScriptItems) × SpellsText text script × (bytes ≡ encoding script) → Spells bytes (script_of_bytes bytes)
text_is_script text bytes (script, h, e) = spells_itself bytes (script, text_bytes text bytes script h e)

pub text_reads : (text bytes : List ℕ) → (script : ScriptItems) × SpellsText text script × (bytes ≡ encoding script) → SpellsText text (script_of_bytes bytes)
text_reads text bytes (script, h, e) = subst (SpellsText text) (sym (listing_back bytes script (text_bytes text bytes script h e))) h

-- which is no longer than a script may be
pub text_fits : (text bytes : List ℕ) → (script : ScriptItems) × SpellsText text script × (bytes ≡ encoding script) → length bytes ≤ script_limit →
    IsScript (script_of_bytes bytes)
text_fits text bytes (script, h, e) short =
    subst IsScript (sym (listing_back bytes script (text_bytes text bytes script h e)))
    (record { range = text_range text script h; few = h.4; short = subst (λ (l : List ℕ). length l ≤ script_limit) e short })

-- a text whose script has too many bytes
pub too_long : (text bytes : List ℕ) → (script : ScriptItems) × SpellsText text script × (bytes ≡ encoding script) → script_limit < length bytes →
    SpellsTooLongScript text
too_long text bytes (script, h, e) long = (script, h, subst (λ (l : List ℕ). script_limit < length l) e long)
