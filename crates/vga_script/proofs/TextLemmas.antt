-- No text spells two scripts or has two faults, and none that spells a script has one.
use Rattle.std.proofs.Common.{◌≡◌, ◌⊎◌, ℕ, ◌+◌, ◌<◌, ◌≤◌, List, [], ◌∷◌, ◌++◌, length, length-append, Result, Ok, Err, refl, sym, ap, ◌∙◌, subst, arith}
use Rattle.std.proofs.Common.{append-nil, inl, inr}
use Rattle.std.specs.Prelude.{IfErr, IsOkUnless}
use Rattle.std.specs.List.{flat_map, AllByRecursion}
use Rattle.std.proofs.lemmas.Grind.{flat_map-append}
use Rattle.vga_bits.specs.declared.fault.Fault.{Fault}
use Rattle.vga_bits.specs.declared.fault.Fault.TheVariants as fault
use Rattle.vga_script.specs.declared.step.Step.{Step}
use Rattle.vga_script.specs.Item.{Item, ScriptItems, expanded, step_limit}
use Rattle.vga_script.specs.declared.version.Version.{Version}
use Rattle.vga_script.specs.declared.version.Version.TheVariants.{One, Two}
use Rattle.vga_script.specs.Tokens.{words, lines}
use Rattle.vga_script.specs.Text.{SpellsLine, IsVersionTwo, LineGroup, IsLineGroup, SpellsGroups, SaysVersionTwo, ItemsBeginAtLine, SpellsText, IsGroupFault, SpellsLinesUpTo}
use Rattle.vga_script.specs.Text.{IsFirstBadLine}
use Rattle.vga_script.specs.Spelling.{script_limit, encoding}
use Rattle.vga_script.specs.Script.{IsScript, IsTextFault}
use Rattle.vga_script.proofs.PrefixLemmas.{Compared, compare}
use Rattle.vga_script.proofs.ItemLemmas.{one_listing, length-expanded-append}
use Rattle.vga_script.proofs.RepeatLineLemmas.{step_or_version}
use Rattle.vga_script.proofs.GroupLemmas.{one_group, some_line, group_or_fault, one_group_fault, fault_at_end}

-- ---- where the items of a text begin

-- each line of a script of version 1 is that of a step, or has no word
line_spells : (groups : List LineGroup) (before : List (List ℕ)) (line : List ℕ) (after : List (List ℕ)) → AllByRecursion (IsLineGroup One) groups →
    flat_map (λ (g : LineGroup). g.lines) groups ≡ before ++ line ∷ after → (steps : List Step) × SpellsLine (words line) steps
line_spells [] [] line after all e = absurd (cc)
line_spells [] (b ∷ before) line after all e = absurd (cc)
line_spells (g ∷ groups) before line after (inr (allowed, block), all) e = absurd allowed
line_spells (g ∷ groups) [] line after (inl (first, steps, is, items, good), all) e =
    let both : first ∷ flat_map (λ (h : LineGroup). h.lines) groups ≡ line ∷ after = ap (λ (l : List (List ℕ)). l
    ++ flat_map (λ (h : LineGroup). h.lines) groups) (sym is) ∙ e in
    let same : first ≡ line = cc in (steps, subst (λ (l : List ℕ). SpellsLine (words l) steps) same good)
line_spells (g ∷ groups) (b ∷ before) line after (inl (first, steps, is, items, good), all) e =
    let both : first ∷ flat_map (λ (h : LineGroup). h.lines) groups ≡ b ∷ (before ++ line ∷ after) =
    ap (λ (l : List (List ℕ)). l ++ flat_map (λ (h : LineGroup). h.lines) groups) (sym is) ∙ e in
    let tails : flat_map (λ (h : LineGroup). h.lines) groups ≡ before ++ line ∷ after = cc in line_spells groups before line after all tails

-- so none says version 2
pub no_version : (ls : List (List ℕ)) (items : List Item) → SpellsGroups One ls items → (n : ℕ) (rest : List (List ℕ)) → SaysVersionTwo ls n rest → ⊥
no_version ls items (groups, e, is, all) n rest says =
    let line = line_spells groups says.before says.line rest all (sym e ∙ says.whole) in
    step_or_version (words says.line) line.0 line.1 says.version

-- the first line that says version 2 is one
same_line : (before other : List (List ℕ)) (line second : List ℕ) (rest others : List (List ℕ)) → AllByRecursion (λ l. words l ≡ []) before →
    AllByRecursion (λ l. words l ≡ []) other → before ++ line ∷ rest ≡ other ++ second ∷ others
    → (words line ≡ [] → ⊥) → (words second ≡ [] → ⊥) → (length before ≡ length other) × (rest ≡ others)
same_line [] [] line second rest others blank blank' e some some' =
    let rests : rest ≡ others = cc in (refl, rests)
same_line [] (o ∷ os) line second rest others blank (none, blank') e some some' = let same : o ≡ line = cc in absurd (some (ap words (sym same) ∙ none))
same_line (b ∷ bs) [] line second rest others (none, blank) blank' e some some' = let same : b ≡ second = cc in absurd (some' (ap words (sym same) ∙ none))
same_line (b ∷ bs) (o ∷ os) line second rest others (none, blank) (none', blank') e some some' =
    let tails : bs ++ line ∷ rest ≡ os ++ second ∷ others = cc in
    let same = same_line bs os line second rest others blank blank' tails some some' in
    (omega (arith, same.0), same.1)

has_words : (line : List ℕ) → IsVersionTwo (words line) → words line ≡ [] → ⊥
has_words line (first, e, is) none = let both = sym none ∙ e in absurd (cc)

one_version_line : (ls : List (List ℕ)) (n m : ℕ) (rest others : List (List ℕ)) → SaysVersionTwo ls n rest → SaysVersionTwo ls m others → (n ≡ m)
    × (rest ≡ others)
one_version_line ls n m rest others h k =
    let same = same_line h.before k.before h.line k.line rest others h.blank k.blank (sym h.whole
    ∙ k.whole) (has_words h.line h.version) (has_words k.line k.version) in
    let len = same.0 in
    let number = h.number in
    let number' = k.number in
    (omega arith, same.1)

-- no line of a text of version 1 says version 2
abbrev NotTwo : Version → List (List ℕ) → Type 0
NotTwo version ls = version ≡ One → (m : ℕ) (others : List (List ℕ)) → SaysVersionTwo ls m others → ⊥

-- so they begin at one line, in one version
one_start : (v w : Version) (ls : List (List ℕ)) (n m : ℕ) (rest others : List (List ℕ)) → ItemsBeginAtLine v ls n rest → ItemsBeginAtLine w ls m others → NotTwo v ls →
    NotTwo w ls → (v ≡ w) × (n ≡ m) × (rest ≡ others)
one_start One One ls n m rest others (is, e) (is', e') no_two no_two' = (refl, is ∙ sym is', e ∙ sym e')
one_start One Two ls n m rest others from says no_two no_two' = absurd (no_two refl m others says)
one_start Two One ls n m rest others says from no_two no_two' = absurd (no_two' refl n rest says)
one_start Two Two ls n m rest others says says' no_two no_two' = let same = one_version_line ls n m rest others says says' in (refl, same.0, same.1)

-- ---- the groups before a place of a text

-- the groups before these lines, and what they spell
record StandsBefore (version : Version) (rest : List (List ℕ)) (items : List Item) (left : List (List ℕ)) (count : ℕ) : Type 0 where
  groups : List LineGroup
  all : AllByRecursion (IsLineGroup version) groups
  whole : rest ≡ flat_map (λ (g : LineGroup). g.lines) groups ++ left
  items_are : items ≡ flat_map (λ (g : LineGroup). g.items) groups
  few : length (expanded items) ≤ step_limit
  count_is : count + length left ≡ length rest

stands : (version : Version) (rest prefix left : List (List ℕ)) (items : List Item) → SpellsGroups version prefix items → rest ≡ prefix ++ left →
    length (expanded items) ≤ step_limit → StandsBefore version rest items left (length prefix)
stands version rest prefix left items (groups, e, is, good) whole few = record {
  groups = groups;
  all = good;
  whole = whole ∙ ap (λ (l : List (List ℕ)). l ++ left) e;
  items_are = is;
  few = few;
  count_is = let l = ap length whole ∙ length-append prefix left in omega arith;
}

-- groups that go on with one more stay within the limit with it
within_limit : (groups others longer : List LineGroup) (g : LineGroup) (items wider : List Item) → longer ≡ groups ++ g ∷ others →
    items ≡ flat_map (λ (h : LineGroup). h.items) groups → wider ≡ flat_map (λ (h : LineGroup). h.items) longer → length (expanded wider) ≤ step_limit
    → length (expanded items) + length (expanded g.items) ≤ step_limit
within_limit groups others longer g items wider e is is' few =
    let whole : wider ≡ flat_map (λ (h : LineGroup). h.items) groups ++ (g.items ++ flat_map (λ (h : LineGroup). h.items) others) =
    is' ∙ ap (flat_map (λ (h : LineGroup). h.items)) e ∙ flat_map-append (λ (h : LineGroup). h.items) groups (g ∷ others) in
    let len = ap (λ (l : List Item). length (expanded l)) whole in
    let first = length-expanded-append (flat_map (λ (h : LineGroup). h.items) groups) (g.items ++ flat_map (λ (h : LineGroup). h.items) others) in
    let second = length-expanded-append g.items (flat_map (λ (h : LineGroup). h.items) others) in
    let same = ap (λ (l : List Item). length (expanded l)) is in omega arith

-- no lines spell two lists of items
one_list : (version : Version) (rest : List (List ℕ)) (a b : List Item) → SpellsGroups version rest a → SpellsGroups version rest b → a ≡ b
one_list version rest a b (groups, e, is, all) (groups', e', is', all') =
    let both : flat_map (λ (g : LineGroup). g.lines) groups ++ [] ≡ flat_map (λ (g : LineGroup). g.lines) groups'
    ++ [] = ap (λ (l : List (List ℕ)). l ++ []) (sym e ∙ e') in
    is ∙ ap (flat_map (λ (g : LineGroup). g.items)) (all_read version groups groups' (compare (λ (g : LineGroup). g.lines) (IsLineGroup version) (one_group version) groups
    groups' [] [] all all' both)) ∙ sym is'
  where
    all_read : (version : Version) (groups groups' : List LineGroup) → Compared (λ (g : LineGroup). g.lines) (IsLineGroup version) groups groups' [] [] → groups ≡ groups'
    all_read version groups groups' (inl (same, rests)) = same
    all_read version groups groups' (inr (inl (next, others, is, fits, rests))) = absurd (some_line version next _ fits rests)
    all_read version groups groups' (inr (inr (next, others, is, fits, rests))) = absurd (some_line version next _ fits rests)

-- a text that spells a script of version 1 does not say version 2
not_two : (text : List ℕ) (version : Version) (items : List Item) (n : ℕ) (rest : List (List ℕ)) → ItemsBeginAtLine version (lines text) n rest →
    SpellsGroups version rest items → NotTwo version (lines text)
not_two text One items n rest (is, e) h one m others says = no_version (lines text) items (subst (λ (l : List (List ℕ)). SpellsGroups One l items) e h) m others
    says
not_two text Two items n rest from h one m others says = absurd (cc)

-- no text spells two scripts
pub one_text : (text : List ℕ) (a b : ScriptItems) → SpellsText text a → SpellsText text b → a ≡ b
one_text text a b (n, rest, from, h, few) (n', rest', from', h', few') =
    let same = one_start a.version b.version (lines text) n n' rest rest' from from' (not_two text a.version a.items n rest from h)
    (not_two text b.version b.items n' rest' from' h') in
    let there : SpellsGroups a.version rest b.items = subst (λ (l : List (List ℕ)). SpellsGroups a.version l b.items) (sym same.2)
    (subst (λ (v : Version). SpellsGroups v rest' b.items) (sym same.0) h') in
    one_listing a b same.0 (one_list a.version rest a.items b.items h there)

-- ---- the first bad line

-- two places with a bad line are one
same_place : (version : Version) (rest left left' : List (List ℕ)) (items items' : List Item) (start count count' bad bad' : ℕ)
    (h : StandsBefore version rest items left count) (k : StandsBefore version rest items' left' count')
    → IsGroupFault version (length (expanded items)) (start + count) left bad → IsGroupFault version (length (expanded items')) (start + count') left' bad'
    → Compared (λ (g : LineGroup). g.lines) (IsLineGroup version) h.groups k.groups left left' → bad ≡ bad'
same_place version rest left left' items items' start count count' bad bad' h k wrong wrong' (inl (same, rests)) =
    let items_same : items' ≡ items = k.items_are ∙ ap (flat_map (λ (g : LineGroup). g.items)) (sym same) ∙ sym h.items_are in
    let len = ap length rests in
    let is = h.count_is in
    let is' = k.count_is in
    let counts : count' ≡ count = omega arith in
    one_group_fault version (length (expanded items)) (start + count) bad bad' left wrong
    (subst (λ (l : List (List ℕ)). IsGroupFault version (length (expanded items)) (start + count) l bad') (sym rests)
    (subst (λ (c : ℕ). IsGroupFault version (length (expanded items)) (start + c) left' bad') counts
    (subst (λ (i : List Item). IsGroupFault version (length (expanded i)) (start + count') left' bad') items_same wrong')))
same_place version rest left left' items items' start count count' bad bad' h k wrong wrong' (inr (inl (next, others, is, fits, rests))) =
    absurd (group_or_fault version (length (expanded items)) (start + count) bad left _ next wrong fits rests
    (within_limit h.groups others k.groups next items items' is h.items_are k.items_are k.few))
same_place version rest left left' items items' start count count' bad bad' h k wrong wrong' (inr (inr (next, others, is, fits, rests))) =
    absurd (group_or_fault version (length (expanded items')) (start + count') bad' left' _ next wrong' fits rests
    (within_limit k.groups others h.groups next items' items is k.items_are h.items_are h.few))

-- the fault at a line whose number is counted from the first of the items
counted : (text : List ℕ) (script : ScriptItems) (n bad : ℕ) (left : List (List ℕ)) (up : SpellsLinesUpTo text script n left) →
    IsGroupFault script.version (length (expanded script.items)) n left bad
    → IsGroupFault script.version (length (expanded script.items)) (up.start + length up.prefix) left bad
counted text script n bad left up wrong = subst (λ (m : ℕ). IsGroupFault script.version (length (expanded script.items)) m left bad) up.number wrong

-- no text has two first bad lines
one_bad_line : (text : List ℕ) (bad bad' : ℕ) → IsFirstBadLine text bad → IsFirstBadLine text bad' → bad ≡ bad'
one_bad_line text bad bad' (script, n, left, up, wrong) (script', n', left', up', wrong') =
    let version = script.version in
    let same = one_start version script'.version (lines text) up.start up'.start up.rest up'.rest up.from up'.from up.one up'.one in
    let stand = stands version up.rest up.prefix left script.items up.good up.whole up.few in
    let good_there : SpellsGroups version up'.prefix script'.items = subst (λ (v : Version). SpellsGroups v up'.prefix script'.items) (sym same.0) up'.good in
    let there = stands version up.rest up'.prefix left' script'.items good_there (same.2 ∙ up'.whole) up'.few in
    let wrong_there : IsGroupFault version (length (expanded script'.items)) (up.start + length up'.prefix) left' bad' =
    subst (λ (m : ℕ). IsGroupFault version (length (expanded script'.items)) (m + length up'.prefix) left' bad') (sym same.1)
    (subst (λ (v : Version). IsGroupFault v (length (expanded script'.items)) (up'.start + length up'.prefix) left' bad') (sym same.0)
    (counted text script' n' bad' left' up' wrong')) in
    same_place version up.rest left left' script.items script'.items up.start (length up.prefix) (length up'.prefix) bad bad' stand there
    (counted text script n bad left up wrong) wrong_there
    (compare (λ (g : LineGroup). g.lines) (IsLineGroup version) (one_group version) stand.groups there.groups left left' stand.all there.all (sym stand.whole
    ∙ there.whole))

-- a text that spells a script has no bad line
nowhere : (version : Version) (rest left : List (List ℕ)) (items items' : List Item) (n count count' bad : ℕ) (h : StandsBefore version rest items [] count)
    (k : StandsBefore version rest items' left count')
    → IsGroupFault version (length (expanded items')) n left bad → Compared (λ (g : LineGroup). g.lines) (IsLineGroup version) h.groups k.groups [] left → ⊥
nowhere version rest left items items' n count count' bad h k wrong (inl (same, rests)) =
    fault_at_end version (length (expanded items')) n bad left (sym rests) wrong
nowhere version rest left items items' n count count' bad h k wrong (inr (inl (next, others, is, fits, rests))) = some_line version next _ fits rests
nowhere version rest left items items' n count count' bad h k wrong (inr (inr (next, others, is, fits, rests))) =
    group_or_fault version (length (expanded items')) n bad left _ next wrong fits rests
    (within_limit k.groups others h.groups next items' items is k.items_are h.items_are h.few)

no_bad_line : (text : List ℕ) (script : ScriptItems) (bad : ℕ) → SpellsText text script → IsFirstBadLine text bad → ⊥
no_bad_line text script bad (n, rest, from, h, few) (script', n', left', up', wrong') =
    let version = script.version in
    let same = one_start version script'.version (lines text) n up'.start rest up'.rest from up'.from (not_two text version script.items n rest from h)
    up'.one in
    let stand = stands version rest rest [] script.items h (sym (append-nil rest)) few in
    let good_there : SpellsGroups version up'.prefix script'.items = subst (λ (v : Version). SpellsGroups v up'.prefix script'.items) (sym same.0) up'.good in
    let there = stands version rest up'.prefix left' script'.items good_there (same.2 ∙ up'.whole) up'.few in
    let wrong_there : IsGroupFault version (length (expanded script'.items)) n' left' bad =
    subst (λ (v : Version). IsGroupFault v (length (expanded script'.items)) n' left' bad) (sym same.0) wrong' in
    nowhere version rest left' script.items script'.items n' (length rest) (length up'.prefix) bad stand there wrong_there
    (compare (λ (g : LineGroup). g.lines) (IsLineGroup version) (one_group version) stand.groups there.groups [] left' stand.all there.all (sym stand.whole
    ∙ there.whole))

-- ---- the faults of a text

-- no text has two faults
pub one_text_fault_lem : (text : List ℕ) (f g : Fault) → IsTextFault text f → IsTextFault text g → f ≡ g
one_text_fault_lem text fault.TooLong fault.TooLong h k = refl
one_text_fault_lem text fault.TooLong (fault.BadLine n) (inl long) (small, bad) = absurd (omega arith)
one_text_fault_lem text fault.TooLong (fault.BadLine n) (inr (small, (script, spelled, long))) (small', bad) = absurd (no_bad_line text script n spelled bad)
one_text_fault_lem text fault.TooLong _ h k = absurd k
one_text_fault_lem text (fault.BadLine n) fault.TooLong (small, bad) (inl long) = absurd (omega arith)
one_text_fault_lem text (fault.BadLine n) fault.TooLong (small, bad) (inr (small', (script, spelled, long))) = absurd (no_bad_line text script n spelled bad)
one_text_fault_lem text (fault.BadLine n) (fault.BadLine m) (small, bad) (small', bad') = ap fault.BadLine (one_bad_line text n m bad bad')
one_text_fault_lem text (fault.BadLine n) _ h k = absurd k
one_text_fault_lem text _ g h k = absurd h

-- a text that spells a script of allowed length has no other fault than its own length
pub no_other_fault : (text : List ℕ) (script : ScriptItems) (f : Fault) → SpellsText text script → IsScript script → IsTextFault text f → f ≡ fault.TooLong
no_other_fault text script fault.TooLong h fits bad = refl
no_other_fault text script (fault.BadLine n) h fits (small, bad) = absurd (no_bad_line text script n h bad)
no_other_fault text script _ h fits bad = absurd bad

along : (a b : ℕ) → a ≡ b → a ≤ script_limit → script_limit < b → ⊥
along a b e p q = absurd (omega arith)

no_fault : (text : List ℕ) (script : ScriptItems) (f : Fault) → length text ≤ script_limit → SpellsText text script → length (encoding script) ≤ script_limit →
    IsTextFault text f → ⊥
no_fault text script fault.TooLong small h short (inl long) = absurd (omega arith)
no_fault text script fault.TooLong small h short (inr (small', (other, spelled, long))) =
    let same = ap (λ (s : ScriptItems). length (encoding s)) (one_text text script other h spelled) in along _ _ same short long
no_fault text script (fault.BadLine n) small h short (fits, bad) = no_bad_line text script n h bad
no_fault text script _ small h short bad = bad

-- so it assembles, where the text has an allowed length too, unless memory runs out
pub assembles : {X : Type 0} (text : List ℕ) (r : Result X Fault) → IfErr r (λ e. (e ≡ fault.OutOfMemory) ⊎ IsTextFault text e)
    → (script : ScriptItems) → length text ≤ script_limit → SpellsText text script → length (encoding script) ≤ script_limit → IsOkUnless r fault.OutOfMemory
assembles text (Ok x) h script small spelled short = tt
assembles text (Err e) (inl memory) script small spelled short = memory
assembles text (Err e) (inr bad) script small spelled short = absurd (no_fault text script e small spelled short bad)
