-- Assembling a text, group by group.
use Rattle.std.proofs.Common.{◌≡◌, ◌≢◌, ◌⊎◌, ◌*◌, ◌-◌, Bool, true, false, IfSome, IfErr, Result, Ok, Err, Bor, option_copied, lt_of_not-le, ℕ, ◌+◌, ◌<◌, ◌≤◌}
use Rattle.std.proofs.Common.{List, [], ◌∷◌, ◌++◌, length, map, Option, Some, None, refl, sym, ap, ◌∙◌, subst, arith, append_assoc, append-nil, length-append}
use Rattle.std.proofs.Common.{inl, inr}
use Rattle.std.specs.List.{flat_map, AllByRecursion}
use Rattle.std.proofs.lemmas.Grind.{flat_map-append}
use Rattle.vga_bits.specs.declared.fault.Fault.{Fault}
use Rattle.vga_bits.specs.declared.fault.Fault.TheVariants as fault
use Rattle.vga_script.specs.declared.step.Step.{Step}
use Rattle.vga_script.specs.Item.{Item, Once, Repeated, ScriptItems, script_of_items, repeated, expanded, step_limit}
use Rattle.vga_script.specs.declared.version.Version.{Version}
use Rattle.vga_script.specs.declared.version.Version.TheVariants.{One}
use Rattle.vga_script.specs.Version.{AllowsRepeats, version_byte}
use Rattle.byteorder.specs.Endian.{little_bytes}
use Rattle.vga_script.specs.Spelling.{magic, opcode_repeat, opcode_end, header, spelling, item_spelling, encoding}
use Rattle.vga_script.specs.Tokens.{lines, lines_of_rest, rest_len_with_one_for_its_end, words}
use Rattle.vga_script.specs.Text.{SpellsLine, SpellsLines, SpellsBeginningOfRepeat, IsRepeatEndLine, IsVersionTwo, LineGroup, IsLineGroup, SpellsGroups, SaysVersionTwo, ItemsBeginAtLine}
use Rattle.vga_script.specs.Text.{SpellsText, IsBadLineOutsideRepeats, IsBadLineInRepeat, StandsInRepeatLines, IsGroupFault, IsFirstBadLine, IsFaultOfFirstBadLine}
use Rattle.vga_script.specs.Assembling.{BeginsWithRepeatBody, IsRepeatBodyFault, BeginsWithGroup, IsFirstGroupFault, AppendsStepsOfLine, AppendsRepeatBody, AppendsRepeat, AppendsGroup}
use Rattle.vga_script.proofs.ItemLemmas.{length-expanded-append, steps_of_repeat}

-- a test that failed did not pass
pub never : (b : Bool) → b ≡ false → b ≡ true → ⊥
never b is not = let both : false ≡ true = sym is ∙ not in absurd (cc)

-- a number for which a test of a bound failed is above it
pub beyond : (n most : ℕ) (b : Bool) → b ≡ false → (n ≤ most → b ≡ true) → most < n
beyond n most b is fits = lt_of_not-le (λ h. never b is (fits h))

-- what follows a line is shorter than the text
pub left_shorter : (left : Option (Bor (List ℕ))) (len : ℕ) → IfSome left (λ rest. length rest.now < len) → rest_len_with_one_for_its_end (option_copied left) ≤ len
left_shorter None len h = omega arith
left_shorter (Some rest) len h = omega arith

-- ---- the body of a repeat

-- one more line
spells_more : (before : List (List ℕ)) (steps : List Step) (line : List ℕ) (here : List Step) → SpellsLines before steps → SpellsLine (words line) here →
    SpellsLines (before ++ line ∷ []) (steps ++ here)
spells_more [] steps line here none is = (here, [], ap (λ (l : List Step). l ++ here) none ∙ sym (append-nil here), is, refl)
spells_more (b ∷ before) steps line here (first, after, e, is, more) new =
    (first, after ++ here, ap (λ (l : List Step). l ++ here) e ∙ append_assoc first after here, is, spells_more before after line here more new)

-- the lines of a repeat so far spell the steps so far
pub record HasReadBody (start : Option (List ℕ)) (first : ℕ) (steps : List Step) (n : ℕ) (left : Option (List ℕ)) : Type 0 where
  pub body : List (List ℕ)
  pub good : SpellsLines body steps
  pub whole : lines_of_rest start ≡ body ++ lines_of_rest left
  pub number : n ≡ first + length body + 1
  pub shorter : n + rest_len_with_one_for_its_end left ≤ first + 1 + rest_len_with_one_for_its_end start

-- no line is read
steps_begins : (start : Option (List ℕ)) (first : ℕ) → HasReadBody start first [] (first + 1) start
steps_begins start first = record { body = []; good = refl; whole = refl; number = omega arith; shorter = omega arith }

-- one more line of a step, or of no word
steps_more : (start others : Option (List ℕ)) (rest line : List ℕ) (first n : ℕ) (steps here : List Step) → HasReadBody start first steps n (Some rest) →
    lines rest ≡ line ∷ lines_of_rest others → rest_len_with_one_for_its_end others ≤ length rest
    → SpellsLine (words line) here → HasReadBody start first (steps ++ here) (n + 1) others
steps_more start others rest line first n steps here h e shorter is = record {
  body = h.body ++ line ∷ [];
  good = spells_more h.body steps line here h.good is;
  whole = h.whole ∙ ap (λ (l : List (List ℕ)). h.body ++ l) e ∙ sym (append_assoc h.body (line ∷ []) (lines_of_rest others));
  number = let c = h.number in let l = length-append h.body (line ∷ []) in omega arith;
  shorter = let s = h.shorter in omega arith;
}

-- the line of its end
steps_ends : (start others : Option (List ℕ)) (rest line : List ℕ) (first n : ℕ) (steps : List Step) → HasReadBody start first steps n (Some rest) →
    lines rest ≡ line ∷ lines_of_rest others → rest_len_with_one_for_its_end others ≤ length rest
    → IsRepeatEndLine (words line) → BeginsWithRepeatBody (first + 1) start steps (n + 1) others
steps_ends start others rest line first n steps h e shorter is = record {
  body = h.body;
  last = line;
  good = h.good;
  ends = is;
  whole = h.whole ∙ ap (λ (l : List (List ℕ)). h.body ++ l) e;
  number = let c = h.number in omega arith;
  shorter = let s = h.shorter in omega arith;
}

-- a bad line
steps_bad : (start others : Option (List ℕ)) (rest line : List ℕ) (first n : ℕ) (steps : List Step) → HasReadBody start first steps n (Some rest) →
    lines rest ≡ line ∷ lines_of_rest others → IsBadLineInRepeat line → IsRepeatBodyFault first start (fault.BadLine n)
steps_bad start others rest line first n steps h e bad =
    let c = h.number in
    inr (h.body, steps, line, lines_of_rest others, omega arith, h.whole ∙ ap (λ (l : List (List ℕ)). h.body ++ l) e, h.good, bad)

-- no line is left
steps_open : (start : Option (List ℕ)) (first n : ℕ) (steps : List Step) → HasReadBody start first steps n None → IsRepeatBodyFault first start (fault.BadLine first)
steps_open start first n steps h = inl (refl, (steps, subst (λ (l : List (List ℕ)). SpellsLines l steps) (sym (h.whole ∙ append-nil h.body)) h.good))

-- and their bytes stand at the end
pub record HasAppendedBody (start : Option (List ℕ)) (before : List ℕ) (first len n : ℕ) (left : Option (List ℕ)) (now : List ℕ) : Type 0 where
  pub steps : List Step
  pub read : HasReadBody start first steps n left
  pub count : len ≡ length steps
  pub few : len ≤ n
  pub bytes : now ≡ before ++ flat_map spelling steps

pub body_begins : (start : Option (List ℕ)) (before : List ℕ) (first : ℕ) → HasAppendedBody start before first 0 (first + 1) start before
body_begins start before first = record { steps = []; read = steps_begins start first; count = refl; few = omega arith; bytes = sym (append-nil before) }

pub body_more : (start others : Option (List ℕ)) (before now new rest line : List ℕ) (first len more n : ℕ) →
    HasAppendedBody start before first len n (Some rest) now → lines rest ≡ line ∷ lines_of_rest others → rest_len_with_one_for_its_end others ≤ length rest
    → AppendsStepsOfLine line now new more → HasAppendedBody start before first (len + more) (n + 1) others new
body_more start others before now new rest line first len more n h e shorter a = record {
  steps = h.steps ++ a.steps;
  read = steps_more start others rest line first n h.steps a.steps h.read e shorter a.good;
  count = let l = length-append h.steps a.steps in let c = h.count in let m = a.count in omega arith;
  few = let f = h.few in let m = a.few in omega arith;
  bytes = a.bytes ∙ ap (λ (l : List ℕ). l ++ flat_map spelling a.steps) h.bytes ∙ append_assoc before (flat_map spelling h.steps) (flat_map spelling a.steps)
      ∙ ap (λ (l : List ℕ). before ++ l) (sym (flat_map-append spelling h.steps a.steps));
}

pub body_ends : (start others : Option (List ℕ)) (before now rest line : List ℕ) (first len n : ℕ) → HasAppendedBody start before first len n (Some rest) now →
    lines rest ≡ line ∷ lines_of_rest others → rest_len_with_one_for_its_end others ≤ length rest
    → IsRepeatEndLine (words line) → AppendsRepeatBody (first + 1) start before now len (n + 1) others
body_ends start others before now rest line first len n h e shorter is = record {
  steps = h.steps;
  body = steps_ends start others rest line first n h.steps h.read e shorter is;
  count = h.count;
  few = let f = h.few in omega arith;
  bytes = h.bytes;
}

pub body_bad : (start others : Option (List ℕ)) (before now rest line : List ℕ) (first len n : ℕ) → HasAppendedBody start before first len n (Some rest) now →
    lines rest ≡ line ∷ lines_of_rest others → IsBadLineInRepeat line → IsRepeatBodyFault first start (fault.BadLine n)
body_bad start others before now rest line first len n h e bad = steps_bad start others rest line first n h.steps h.read e bad

pub body_open : (start : Option (List ℕ)) (before now : List ℕ) (first len n : ℕ) → HasAppendedBody start before first len n None now →
    IsRepeatBodyFault first start (fault.BadLine first)
body_open start before now first len n h = steps_open start first n h.steps h.read

-- a repeat with its opcodes and its count
pub repeat_appended : (n : ℕ) (left behind : Option (List ℕ)) (count len next : ℕ) (before marked counted full after : List ℕ) → marked ≡ before
    ++ opcode_repeat ∷ [] → counted ≡ marked ++ little_bytes 2 count
    → AppendsRepeatBody n left counted full len next behind → after ≡ full ++ opcode_end ∷ [] → AppendsRepeat n left count before after (count * len) next behind
repeat_appended n left behind count len next before marked counted full after m c a e =
    let steps = flat_map spelling a.steps in
    let field = little_bytes 2 count in
    record {
      steps = a.steps;
      body = a.body;
      means = steps_of_repeat count len a.steps a.count;
      bytes = e ∙ ap (λ (l : List ℕ). l ++ opcode_end ∷ []) (a.bytes ∙ ap (λ (l : List ℕ). l ++ steps) (c ∙ ap (λ (l : List ℕ). l ++ field) m))
          ∙ append_assoc ((before ++ opcode_repeat ∷ []) ++ field) steps (opcode_end ∷ [])
          ∙ append_assoc (before ++ opcode_repeat ∷ []) field (steps ++ opcode_end ∷ [])
          ∙ append_assoc before (opcode_repeat ∷ []) (field ++ (steps ++ opcode_end ∷ []));
    }

-- ---- a group

-- the steps of a line as items
as_many_meant : (steps : List Step) → length steps ≡ length (expanded (map Once steps))
as_many_meant [] = refl
as_many_meant (s ∷ steps) = let m = as_many_meant steps in omega arith

spelled : (steps : List Step) → flat_map spelling steps ≡ flat_map item_spelling (map Once steps)
spelled [] = refl
spelled (s ∷ steps) = ap (λ (l : List ℕ). spelling s ++ l) (spelled steps)

pub group_of_line : (version : Version) (n : ℕ) (text line before after : List ℕ) (others : Option (List ℕ)) (len : ℕ) → lines text ≡ line ∷ lines_of_rest others →
    AppendsStepsOfLine line before after len
    → AppendsGroup version n (lines text) before after len (n + 1) others
group_of_line version n text line before after others len e a = record {
  items = map Once a.steps;
  group = record {
    group = record { lines = line ∷ []; items = map Once a.steps };
    good = inl (line, a.steps, refl, refl, a.good);
    items_are = refl;
    whole = e;
    number = refl;
  };
  means = a.count ∙ as_many_meant a.steps;
  bytes = a.bytes ∙ ap (λ (l : List ℕ). before ++ l) (spelled a.steps);
}

-- a repeat
pub group_of_repeat : (version : Version) (n : ℕ) (text line before after : List ℕ) (others behind : Option (List ℕ)) (count len next : ℕ) →
    AllowsRepeats version → lines text ≡ line ∷ lines_of_rest others → SpellsBeginningOfRepeat (words line) count
    → AppendsRepeat (n + 1) others count before after len next behind → AppendsGroup version n (lines text) before after len next behind
group_of_repeat version n text line before after others behind count len next allowed e begins a =
    let h = a.body in
    let items = Repeated count a.steps ∷ [] in
    record {
      items = items;
      group = record {
        group = record { lines = line ∷ (h.body ++ h.last ∷ []); items = items };
        good = inr (allowed, (line, count, h.body, a.steps, h.last, refl, refl, begins, h.good, h.ends));
        items_are = refl;
        whole = e ∙ ap (λ (l : List (List ℕ)). line ∷ l) (h.whole ∙ sym (append_assoc h.body (h.last ∷ []) (lines_of_rest behind)));
        number = let c = h.number in let l = length-append h.body (h.last ∷ []) in omega arith;
      };
      means = a.means ∙ ap length (sym (append-nil (repeated count a.steps)));
      bytes = a.bytes ∙ ap (λ (l : List ℕ). before ++ l) (sym (append-nil (item_spelling (Repeated count a.steps))));
    }

-- a bad line outside repeats
pub group_bad : (version : Version) (n : ℕ) (text line : List ℕ) (others : Option (List ℕ)) → lines text ≡ line ∷ lines_of_rest others →
    IsBadLineOutsideRepeats version line → IsFirstGroupFault version n (lines text) (fault.BadLine n)
group_bad version n text line others e bad so_far = inl (refl, (line, lines_of_rest others, e, bad))

-- the fault of a repeat
repeat_open : (version : Version) (n place : ℕ) (ls : List (List ℕ)) → StandsInRepeatLines version ls place [] → IsFirstGroupFault version n ls (fault.BadLine n)
repeat_open version n place ls h so_far = inr (inr (inl (refl, (place, h))))

pub repeat_bad : (version : Version) (n : ℕ) (text line : List ℕ) (others : Option (List ℕ)) (count : ℕ) (f : Fault) → AllowsRepeats version →
    lines text ≡ line ∷ lines_of_rest others → SpellsBeginningOfRepeat (words line) count
    → IsRepeatBodyFault n others f → IsFirstGroupFault version n (lines text) f
repeat_bad version n text line others count (fault.BadLine bad) allowed e begins (inl (is, (steps, good))) = λ so_far.
    inr (inr (inl (
      is,
      (
        length (lines_of_rest others) + 1,
        record {
          first = line;
          count = count;
          body = lines_of_rest others;
          steps = steps;
          allowed = allowed;
          begins = begins;
          good = good;
          whole = e ∙ ap (λ (l : List (List ℕ)). line ∷ l) (sym (append-nil (lines_of_rest others)));
          distance_is = refl;
        },
      ),
    )))
repeat_bad version n text line others count (fault.BadLine bad) allowed e begins (inr (body, steps, other, behind, is, whole, good, wrong)) = λ so_far.
    inr (inl (
      length body + 1,
      other,
      behind,
      is,
      record {
        first = line;
        count = count;
        body = body;
        steps = steps;
        allowed = allowed;
        begins = begins;
        good = good;
        whole = e ∙ ap (λ (l : List (List ℕ)). line ∷ l) whole;
        distance_is = refl;
      },
      wrong,
    ))
repeat_bad version n text line others count _ allowed e begins h = absurd h

-- or memory ran out
pub group_fault : (version : Version) (n : ℕ) (text line : List ℕ) (others : Option (List ℕ)) (count : ℕ) (f : Fault) → AllowsRepeats version →
    lines text ≡ line ∷ lines_of_rest others → SpellsBeginningOfRepeat (words line) count
    → (f ≡ fault.OutOfMemory) ⊎ IsRepeatBodyFault n others f → (f ≡ fault.OutOfMemory) ⊎ IsFirstGroupFault version n (lines text) f
group_fault version n text line others count f allowed e begins (inl memory) = inl memory
group_fault version n text line others count f allowed e begins (inr h) = inr (repeat_bad version n text line others count f allowed e begins h)

-- and where it has one
pub group_faults : {A : Type 0} (version : Version) (n : ℕ) (text line : List ℕ) (others : Option (List ℕ)) (count : ℕ) (r : Result A Fault) →
    AllowsRepeats version → lines text ≡ line ∷ lines_of_rest others → SpellsBeginningOfRepeat (words line) count
    → IfErr r (λ f. (f ≡ fault.OutOfMemory) ⊎ IsRepeatBodyFault n others f) → IfErr r (λ f. (f ≡ fault.OutOfMemory) ⊎ IsFirstGroupFault version n (lines text) f)
group_faults version n text line others count (Ok x) allowed e begins h = tt
group_faults version n text line others count (Err f) allowed e begins h = group_fault version n text line others count f allowed e begins h

-- ---- the line of the version

-- the lines so far have no word
pub record HasBlank (text : List ℕ) (n : ℕ) (left : Option (List ℕ)) : Type 0 where
  pub before : List (List ℕ)
  pub blank : AllByRecursion (λ line. words line ≡ []) before
  pub whole : lines text ≡ before ++ lines_of_rest left
  pub number : n ≡ length before + 1
  pub shorter : n + rest_len_with_one_for_its_end left ≤ length text + 2

pub blank_none : (text : List ℕ) → HasBlank text 1 (Some text)
blank_none text = record { before = []; blank = tt; whole = refl; number = refl; shorter = omega arith }

all_push : (ls : List (List ℕ)) (line : List ℕ) → AllByRecursion (λ l. words l ≡ []) ls → words line ≡ [] → AllByRecursion (λ l. words l ≡ []) (ls ++ line ∷ [])
all_push [] line all none = (none, tt)
all_push (l ∷ ls) line (first, all) none = (first, all_push ls line all none)

pub blank_more : (text rest line : List ℕ) (others : Option (List ℕ)) (n : ℕ) → HasBlank text n (Some rest) → lines rest ≡ line ∷ lines_of_rest others →
    rest_len_with_one_for_its_end others ≤ length rest → words line ≡ [] → HasBlank text (n + 1) others
blank_more text rest line others n h e shorter none = record {
  before = h.before ++ line ∷ [];
  blank = all_push h.before line h.blank none;
  whole = h.whole ∙ ap (λ (l : List (List ℕ)). h.before ++ l) e ∙ sym (append_assoc h.before (line ∷ []) (lines_of_rest others));
  number = let c = h.number in let l = length-append h.before (line ∷ []) in omega arith;
  shorter = let s = h.shorter in omega arith;
}

-- the next says version 2
pub two_found : (text rest line : List ℕ) (others : Option (List ℕ)) (n : ℕ) → HasBlank text n (Some rest) → lines rest ≡ line ∷ lines_of_rest others →
    IsVersionTwo (words line) → SaysVersionTwo (lines text) (n + 1) (lines_of_rest others)
two_found text rest line others n h e is = record {
  before = h.before;
  line = line;
  blank = h.blank;
  version = is;
  whole = h.whole ∙ ap (λ (l : List (List ℕ)). h.before ++ l) e;
  number = let c = h.number in omega arith;
}

-- a line that says version 2 has words
has_words : (line : List ℕ) → IsVersionTwo (words line) → words line ≡ [] → ⊥
has_words line (first, e, is) none = let both = sym none ∙ e in absurd (cc)

-- the first line with a word does not say version 2
not_there : (before other : List (List ℕ)) (line second : List ℕ) (rest others : List (List ℕ)) → AllByRecursion (λ l. words l ≡ []) before →
    AllByRecursion (λ l. words l ≡ []) other → before ++ line ∷ rest ≡ other ++ second ∷ others
    → (words line ≡ [] → ⊥) → (IsVersionTwo (words line) → ⊥) → IsVersionTwo (words second) → ⊥
not_there [] [] line second rest others blank blank' e some other is =
    let same : second ≡ line = cc in other (subst (λ (l : List ℕ). IsVersionTwo (words l)) same is)
not_there [] (o ∷ os) line second rest others blank (none, blank') e some other is =
    let same : o ≡ line = cc in some (ap words (sym same) ∙ none)
not_there (b ∷ bs) [] line second rest others (none, blank) blank' e some other is =
    let same : b ≡ second = cc in has_words second is (ap words (sym same) ∙ none)
not_there (b ∷ bs) (o ∷ os) line second rest others (none, blank) (none', blank') e some other is =
    let tails : bs ++ line ∷ rest ≡ os ++ second ∷ others = cc in not_there bs os line second rest others blank blank' tails some other is

pub not_two : (text rest line : List ℕ) (left : Option (List ℕ)) (n : ℕ) → HasBlank text n (Some rest) → lines rest ≡ line ∷ lines_of_rest left → words line ≢ [] →
    (IsVersionTwo (words line) → ⊥)
    → (m : ℕ) (others : List (List ℕ)) → SaysVersionTwo (lines text) m others → ⊥
not_two text rest line left n h e some other m others says =
    not_there h.before says.before line says.line (lines_of_rest left) others h.blank says.blank (sym (ap (λ (l : List (List ℕ)). h.before ++ l) e) ∙ sym h.whole
    ∙ says.whole) some other says.version

-- nor is there any line with a word
all_blank : (ls before : List (List ℕ)) (line : List ℕ) (rest : List (List ℕ)) → AllByRecursion (λ l. words l ≡ []) ls → ls ≡ before ++ line ∷ rest →
    IsVersionTwo (words line) → ⊥
all_blank [] [] line rest all e is = absurd (cc)
all_blank [] (b ∷ before) line rest all e is = absurd (cc)
all_blank (l ∷ ls) [] line rest (none, all) e is = let same : l ≡ line = cc in has_words line is (ap words (sym same) ∙ none)
all_blank (l ∷ ls) (b ∷ before) line rest (none, all) e is = let tails : ls ≡ before ++ line ∷ rest = cc in all_blank ls before line rest all tails is

pub none_two : (text : List ℕ) (n : ℕ) → HasBlank text n None → (m : ℕ) (others : List (List ℕ)) → SaysVersionTwo (lines text) m others → ⊥
none_two text n h m others says = all_blank h.before says.before says.line others h.blank (sym (h.whole ∙ append-nil h.before) ∙ says.whole) says.version

-- ---- the groups of a text

-- groups one after another
all_groups : (version : Version) (groups : List LineGroup) (group : LineGroup) → AllByRecursion (IsLineGroup version) groups → IsLineGroup version group →
    AllByRecursion (IsLineGroup version) (groups ++ group ∷ [])
all_groups version [] group all good = (good, tt)
all_groups version (g ∷ groups) group (first, all) good = (first, all_groups version groups group all good)

groups_more : (version : Version) (prefix : List (List ℕ)) (items : List Item) (group : LineGroup) → SpellsGroups version prefix items → IsLineGroup version group →
    SpellsGroups version (prefix ++ group.lines) (items ++ group.items)
groups_more version prefix items group (groups, e, f, all) good = (
  groups ++ group ∷ [],
  ap (λ (l : List (List ℕ)). l ++ group.lines) e ∙ ap (λ (l : List (List ℕ)). flat_map (λ (g : LineGroup). g.lines) groups ++ l) (sym (append-nil group.lines))
      ∙ sym (flat_map-append (λ (g : LineGroup). g.lines) groups (group ∷ [])),
  ap (λ (l : List Item). l ++ group.items) f ∙ ap (λ (l : List Item). flat_map (λ (g : LineGroup). g.items) groups ++ l) (sym (append-nil group.items))
      ∙ sym (flat_map-append (λ (g : LineGroup). g.items) groups (group ∷ [])),
  all_groups version groups group all good,
)

-- the lines so far spell the items so far, which mean `so_far` steps
pub record HasRead (text : List ℕ) (version : Version) (items : List Item) (so_far : ℕ) (n : ℕ) (left : Option (List ℕ)) : Type 0 where
  pub start : ℕ
  pub rest : List (List ℕ)
  pub prefix : List (List ℕ)
  pub from : ItemsBeginAtLine version (lines text) start rest
  pub one : version ≡ One → (m : ℕ) (others : List (List ℕ)) → SaysVersionTwo (lines text) m others → ⊥
  pub good : SpellsGroups version prefix items
  pub whole : rest ≡ prefix ++ lines_of_rest left
  pub number : n ≡ start + length prefix
  pub count : so_far ≡ length (expanded items)
  pub few : so_far ≤ step_limit
  pub short : n + rest_len_with_one_for_its_end left ≤ length text + 2

-- no line is read
pub read_none : (text : List ℕ) (version : Version) (n : ℕ) (left : Option (List ℕ)) → ItemsBeginAtLine version (lines text) n (lines_of_rest left) →
    (version ≡ One → (m : ℕ) (others : List (List ℕ)) → SaysVersionTwo (lines text) m others → ⊥)
    → n + rest_len_with_one_for_its_end left ≤ length text + 2 → HasRead text version [] 0 n left
read_none text version n left from one short = record {
  start = n;
  rest = lines_of_rest left;
  prefix = [];
  from = from;
  one = one;
  good = ([], refl, refl, tt);
  whole = refl;
  number = omega arith;
  count = refl;
  few = omega arith;
  short = short;
}

-- one more group is
pub read_more : (text rest : List ℕ) (version : Version) (items here : List Item) (so_far more n next : ℕ) (behind : Option (List ℕ)) →
    HasRead text version items so_far n (Some rest) → BeginsWithGroup version n (lines rest) here next behind
    → more ≡ so_far + length (expanded here) → more ≤ step_limit → next + rest_len_with_one_for_its_end behind ≤ n + (length rest + 1) →
    HasRead text version (items ++ here) more next behind
read_more text rest version items here so_far more n next behind h g sum few shorter =
    let lens = length-append h.prefix g.group.lines in
    let counts = length-expanded-append items here in
    let counted = h.count in
    let number = h.number in
    let goes = g.number in
    let short = h.short in
    record {
      start = h.start;
      rest = h.rest;
      prefix = h.prefix ++ g.group.lines;
      from = h.from;
      one = h.one;
      good = subst (λ (l : List Item). SpellsGroups version (h.prefix ++ g.group.lines) (items ++ l)) g.items_are
          (groups_more version h.prefix items g.group h.good g.good);
      whole = h.whole ∙ ap (λ (l : List (List ℕ)). h.prefix ++ l) g.whole ∙ sym (append_assoc h.prefix g.group.lines (lines_of_rest behind));
      number = omega arith;
      count = omega arith;
      few = few;
      short = omega arith;
    }

-- nothing is left
pub read_all : (text : List ℕ) (version : Version) (items : List Item) (so_far n : ℕ) → HasRead text version items so_far n None →
    SpellsText text (script_of_items version items)
read_all text version items so_far n h =
    let count = h.count in
    let few = h.few in
    (h.start, h.rest, h.from, subst (λ (l : List (List ℕ)). SpellsGroups version l items) (sym (h.whole ∙ append-nil h.prefix)) h.good, omega arith)

-- the fault of the next group is that of the text
bad_line : (text rest : List ℕ) (version : Version) (items : List Item) (so_far n bad : ℕ) → HasRead text version items so_far n (Some rest) →
    IsGroupFault version so_far n (lines rest) bad → IsFirstBadLine text bad
bad_line text rest version items so_far n bad h wrong =
    let count = h.count in
    let few = h.few in (
      script_of_items version items,
      n,
      lines rest,
      record {
        start = h.start;
        rest = h.rest;
        prefix = h.prefix;
        from = h.from;
        one = h.one;
        whole = h.whole;
        good = h.good;
        few = omega arith;
        number = h.number;
      },
      subst (λ (m : ℕ). IsGroupFault version m n (lines rest) bad) h.count wrong,
    )

pub read_bad : (text rest : List ℕ) (version : Version) (items : List Item) (so_far n : ℕ) (f : Fault) → HasRead text version items so_far n (Some rest) →
    IsFirstGroupFault version n (lines rest) f → IsFaultOfFirstBadLine text f
read_bad text rest version items so_far n (fault.BadLine bad) h wrong = bad_line text rest version items so_far n bad h (wrong so_far)
read_bad text rest version items so_far n _ h wrong = absurd wrong

-- with the next group there are too many steps
pub read_too_many : (text rest : List ℕ) (version : Version) (items here : List Item) (so_far n next : ℕ) (behind : Option (List ℕ)) (f : Fault) →
    HasRead text version items so_far n (Some rest) → BeginsWithGroup version n (lines rest) here next behind
    → f ≡ fault.BadLine n → step_limit < so_far + length (expanded here) → IsFaultOfFirstBadLine text f
read_too_many text rest version items here so_far n next behind f h g is long =
    let same = ap (λ (l : List Item). length (expanded l)) g.items_are in
    subst (IsFaultOfFirstBadLine text) (sym is)
    (bad_line text rest version items so_far n n h (inr (inr (inr (refl, (g.group, lines_of_rest behind, g.whole, g.good, omega arith))))))

-- or memory ran out
pub text_fault : (text rest : List ℕ) (version : Version) (items : List Item) (so_far n : ℕ) (f : Fault) → HasRead text version items so_far n (Some rest) →
    (f ≡ fault.OutOfMemory) ⊎ IsFirstGroupFault version n (lines rest) f
    → (f ≡ fault.OutOfMemory) ⊎ IsFaultOfFirstBadLine text f
text_fault text rest version items so_far n f h (inl memory) = inl memory
text_fault text rest version items so_far n f h (inr wrong) = inr (read_bad text rest version items so_far n f h wrong)

-- ---- the bytes of a text

-- the letters and the version
pub header_written : (version : Version) (byte : ℕ) (empty first second : List ℕ) → empty ≡ [] → first ≡ empty ++ magic → second ≡ first ++ byte ∷ [] →
    byte ≡ version_byte version → second ≡ header version
header_written version byte empty first second e m b is = b ∙ ap (λ (l : List ℕ). l ++ byte ∷ []) (m ∙ ap (λ (l : List ℕ). l ++ magic) e)
    ∙ ap (λ (n : ℕ). magic ++ n ∷ []) is

-- the lines so far spell items with these bytes, which mean `so_far` steps
pub record HasAssembled (text : List ℕ) (version : Version) (so_far n : ℕ) (left : Option (List ℕ)) (out : List ℕ) : Type 0 where
  pub items : List Item
  pub read : HasRead text version items so_far n left
  pub bytes : out ≡ header version ++ flat_map item_spelling items

pub text_begins : (text out : List ℕ) (version : Version) (n : ℕ) (left : Option (List ℕ)) → ItemsBeginAtLine version (lines text) n (lines_of_rest left) →
    (version ≡ One → (m : ℕ) (others : List (List ℕ)) → SaysVersionTwo (lines text) m others → ⊥)
    → n + rest_len_with_one_for_its_end left ≤ length text + 2 → out ≡ header version → HasAssembled text version 0 n left out
text_begins text out version n left from one short is = record {
  items = [];
  read = read_none text version n left from one short;
  bytes = is
      ∙ sym (append-nil (header version));
}

pub text_more : (text rest now new : List ℕ) (version : Version) (so_far more n next : ℕ) (behind : Option (List ℕ)) →
    HasAssembled text version so_far n (Some rest) now → AppendsGroup version n (lines rest) now new more next behind
    → more ≤ step_limit - so_far → next + rest_len_with_one_for_its_end behind ≤ n + (length rest + 1) → HasAssembled text version (so_far + more) next behind new
text_more text rest now new version so_far more n next behind h g few shorter =
    let m = g.means in
    let t = h.read.few in
    record {
      items = h.items ++ g.items;
      read = read_more text rest version h.items g.items so_far (so_far + more) n next behind h.read g.group (omega arith) (omega arith) shorter;
      bytes = g.bytes ∙ ap (λ (l : List ℕ). l ++ flat_map item_spelling g.items) h.bytes
          ∙ append_assoc (header version) (flat_map item_spelling h.items) (flat_map item_spelling g.items)
          ∙ ap (λ (l : List ℕ). header version ++ l) (sym (flat_map-append item_spelling h.items g.items));
    }

pub text_all : (text out : List ℕ) (version : Version) (so_far n : ℕ) → HasAssembled text version so_far n None out
    → (script : ScriptItems) × SpellsText text script
    × (out ≡ encoding script)
text_all text out version so_far n h = (script_of_items version h.items, read_all text version h.items so_far n h.read, h.bytes)

pub text_many : (text rest now new : List ℕ) (version : Version) (so_far more n next : ℕ) (behind : Option (List ℕ)) →
    HasAssembled text version so_far n (Some rest) now → AppendsGroup version n (lines rest) now new more next behind
    → step_limit - so_far < more → IsFaultOfFirstBadLine text (fault.BadLine n)
text_many text rest now new version so_far more n next behind h g many =
    let m = g.means in
    let t = h.read.few in
    read_too_many text rest version h.items g.items so_far n next behind (fault.BadLine n) h.read g.group refl (omega arith)

pub text_faulty : (text rest now : List ℕ) (version : Version) (so_far n : ℕ) (f : Fault) → HasAssembled text version so_far n (Some rest) now →
    (f ≡ fault.OutOfMemory) ⊎ IsFirstGroupFault version n (lines rest) f
    → (f ≡ fault.OutOfMemory) ⊎ IsFaultOfFirstBadLine text f
text_faulty text rest now version so_far n f h bad = text_fault text rest version h.items so_far n f h.read bad
