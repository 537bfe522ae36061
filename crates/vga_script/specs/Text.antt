-- What a script is as text: each line has the words of one step, or none; in version 2 it may also
-- begin or end a repeat.
use Rattle.std.specs.Prelude.{ℕ, ◌≡◌, ◌<◌, ◌≤◌, ◌+◌, ◌^◌, ◌⊎◌, List, [], ◌∷◌, ◌++◌, length, map}
use Rattle.std.specs.Prelude.{codes, Ok}
use Rattle.std.specs.List.{AllByRecursion, flat_map}
use Rattle.hex.specs.Hex.{decode_of}
use Rattle.vga_script.specs.declared.step.Step.{Step}
use Rattle.vga_script.specs.declared.step.Step.TheVariants.{Out, OutWord, In, InWord, Put, PutWord}
use Rattle.vga_script.specs.declared.step.Step.TheVariants.{Get, GetWord, Int, Advance, Frame, Show}
use Rattle.vga_script.specs.Item.{Item, Once, Repeated, ScriptItems, expanded, step_limit}
use Rattle.vga_script.specs.declared.version.Version.{Version}
use Rattle.vga_script.specs.declared.version.Version.TheVariants.{One, Two}
use Rattle.vga_script.specs.declared.dump_range.Shown.{Shown}
use Rattle.vga_script.specs.declared.dump_range.Shown.TheVariants as shown
use Rattle.vga_script.specs.declared.keyword.Keyword.{Keyword}
use Rattle.vga_script.specs.declared.keyword.Keyword.TheVariants as keyword
use Rattle.vga_bits.specs.declared.fault.Fault.{Fault}
use Rattle.vga_bits.specs.declared.fault.Fault.TheVariants.{BadLine}
use Rattle.vga_script.specs.Version.{AllowsRepeats}
use Rattle.vga_script.specs.DumpRange.{IsShownInRange}
use Rattle.vga_script.specs.Tokens.{lines, words, in_lower_case, IsNumeral, IsHex}

-- the word that a step's line begins with, in lower case
abbrev pub keyword_name : Keyword → List ℕ
keyword_name keyword.Out = codes "out"
keyword_name keyword.OutWord = codes "outw"
keyword_name keyword.In = codes "in"
keyword_name keyword.InWord = codes "inw"
keyword_name keyword.Put = codes "put"
keyword_name keyword.PutWord = codes "putw"
keyword_name keyword.Get = codes "get"
keyword_name keyword.GetWord = codes "getw"
keyword_name keyword.Int = codes "int"
keyword_name keyword.Advance = codes "advance"
keyword_name keyword.Frame = codes "frame"
keyword_name keyword.Show = codes "show"

-- the keyword of a step
abbrev pub keyword_of : Step → Keyword
keyword_of (Out port value) = keyword.Out
keyword_of (OutWord port value) = keyword.OutWord
keyword_of (In port) = keyword.In
keyword_of (InWord port) = keyword.InWord
keyword_of (Put address value) = keyword.Put
keyword_of (PutWord address value) = keyword.PutWord
keyword_of (Get address) = keyword.Get
keyword_of (GetWord address) = keyword.GetWord
keyword_of (Int ax bx cx dx block) = keyword.Int
keyword_of (Advance dots) = keyword.Advance
keyword_of Frame = keyword.Frame
keyword_of (Show what) = keyword.Show

-- one word, a hexadecimal number of at most `most` digits
abbrev pub SpellsHex : ℕ → List (List ℕ) → ℕ → Type 0
SpellsHex most fields n = (word : List ℕ) × (fields ≡ word ∷ []) × IsHex most word n

-- two words, each a hexadecimal number with a limit for its digits
abbrev pub SpellsTwoHex : ℕ → ℕ → List (List ℕ) → ℕ → ℕ → Type 0
SpellsTwoHex most_first most_second fields first second =
    (word : List ℕ) × (other : List ℕ) × (fields ≡ word ∷ other ∷ []) × IsHex most_first word first
    × IsHex most_second other second

-- no word, which means that the register is 0; or one word, the register's name and a number of at
-- most four digits
abbrev pub SpellsRegister : List ℕ → List (List ℕ) → ℕ → Type 0
SpellsRegister name fields value =
    ((fields ≡ []) × (value ≡ 0))
    ⊎ ((prefix : List ℕ) × (digits : List ℕ) × (fields ≡ (prefix ++ digits) ∷ [])
    × (in_lower_case prefix ≡ name) × IsHex 4 digits value)

-- two hexadecimal digits for each byte, the high one first
abbrev pub SpellsBytes : List ℕ → List ℕ → Type 0
SpellsBytes digits bytes = decode_of digits ≡ Ok bytes

-- no word, which means that the block is empty; or `block` and the digits of 1 to 65,535 bytes
abbrev pub SpellsBlock : List (List ℕ) → List ℕ → Type 0
SpellsBlock fields block =
    ((fields ≡ []) × (block ≡ []))
    ⊎ ((name : List ℕ) × (digits : List ℕ) × (fields ≡ name ∷ digits ∷ [])
    × (in_lower_case name ≡ codes "block")
    × (0 < length block) × (length block < 2 ^ 16) × SpellsBytes digits block)

-- the word that says what is shown, in lower case
abbrev pub shown_name : Shown → List ℕ
shown_name shown.Registers = codes "regs"
shown_name (shown.Dac index) = codes "dac"
shown_name shown.Beam = codes "beam"
shown_name shown.Latches = codes "latches"
shown_name (shown.Plane plane offset count) = codes "plane"
shown_name shown.BiosData = codes "bda"
shown_name shown.Cells = codes "cells"

-- the words that follow that name
abbrev pub SpellsShownFields : List (List ℕ) → Shown → Type 0
SpellsShownFields fields shown.Registers = fields ≡ []
SpellsShownFields fields (shown.Dac index) = SpellsHex 2 fields index
SpellsShownFields fields shown.Beam = fields ≡ []
SpellsShownFields fields shown.Latches = fields ≡ []
SpellsShownFields fields (shown.Plane plane offset count) =
    (p : List ℕ) × (o : List ℕ) × (n : List ℕ) × (fields ≡ p ∷ o ∷ n ∷ [])
    × IsHex 1 p plane × IsHex 4 o offset × IsNumeral 10 n count
    × IsShownInRange (shown.Plane plane offset count)
SpellsShownFields fields shown.BiosData = fields ≡ []
SpellsShownFields fields shown.Cells = fields ≡ []

-- a word that says what is shown, and its fields
abbrev pub SpellsShown : List (List ℕ) → Shown → Type 0
SpellsShown fields what =
    (first : List ℕ) × (rest : List (List ℕ)) × (fields ≡ first ∷ rest)
    × (in_lower_case first ≡ shown_name what) × SpellsShownFields rest what

-- the words that follow a step's name
abbrev pub SpellsFields : List (List ℕ) → Step → Type 0
SpellsFields fields (Out port value) = SpellsTwoHex 4 2 fields port value
SpellsFields fields (OutWord port value) = SpellsTwoHex 4 4 fields port value
SpellsFields fields (In port) = SpellsHex 4 fields port
SpellsFields fields (InWord port) = SpellsHex 4 fields port
SpellsFields fields (Put address value) = SpellsTwoHex 8 2 fields address value
SpellsFields fields (PutWord address value) = SpellsTwoHex 8 4 fields address value
SpellsFields fields (Get address) = SpellsHex 8 fields address
SpellsFields fields (GetWord address) = SpellsHex 8 fields address
SpellsFields fields (Int ax bx cx dx block) =
    (a : List (List ℕ)) × (b : List (List ℕ)) × (c : List (List ℕ)) × (d : List (List ℕ))
    × (e : List (List ℕ))
    × (fields ≡ a ++ (b ++ (c ++ (d ++ e))))
    × SpellsRegister (codes "ax=") a ax × SpellsRegister (codes "bx=") b bx
    × SpellsRegister (codes "cx=") c cx × SpellsRegister (codes "dx=") d dx × SpellsBlock e block
SpellsFields fields (Advance dots) = (word : List ℕ) × (fields ≡ word ∷ []) × IsNumeral 10 word dots
    × (dots < 2 ^ 32)
SpellsFields fields Frame = fields ≡ []
SpellsFields fields (Show what) = SpellsShown fields what

-- the words of a line: none, which spell no step, or those of one step
abbrev pub SpellsLine : List (List ℕ) → List Step → Type 0
SpellsLine [] steps = steps ≡ []
SpellsLine (first ∷ fields) steps =
    (step : Step) × (steps ≡ step ∷ []) × (in_lower_case first ≡ keyword_name (keyword_of step))
    × SpellsFields fields step

-- these lines spell these steps, in order
abbrev pub SpellsLines : List (List ℕ) → List Step → Type 0
SpellsLines [] steps = steps ≡ []
SpellsLines (line ∷ others) steps =
    (here : List Step) × (after : List Step) × (steps ≡ here ++ after)
    × SpellsLine (words line) here × SpellsLines others after

-- the words of a line that begins a repeat: `repeat`, and a count of 1 to 65,535 in decimal
abbrev pub SpellsBeginningOfRepeat : List (List ℕ) → ℕ → Type 0
SpellsBeginningOfRepeat fields count =
    (first : List ℕ) × (number : List ℕ) × (fields ≡ first ∷ number ∷ [])
    × (in_lower_case first ≡ codes "repeat")
    × IsNumeral 10 number count × (0 < count) × (count < 2 ^ 16)

-- the word of a line that ends a repeat
abbrev pub IsRepeatEndLine : List (List ℕ) → Type 0
IsRepeatEndLine fields =
    (first : List ℕ) × (fields ≡ first ∷ []) × (in_lower_case first ≡ codes "end")

-- the words of the line that gives version 2
abbrev pub IsVersionTwo : List (List ℕ) → Type 0
IsVersionTwo fields = (first : List ℕ) × (fields ≡ first ∷ codes "2" ∷ [])
    × (in_lower_case first ≡ codes "version")

-- Some lines of a text, and the items that they spell together.
pub record LineGroup : Type 0 where
  pub lines : List (List ℕ)
  pub items : List Item

-- one line, with a step or without a word
abbrev pub IsOneLineGroup : LineGroup → Type 0
IsOneLineGroup group = (line : List ℕ) × (steps : List Step) × (group.lines ≡ line ∷ [])
    × (group.items ≡ map Once steps) × SpellsLine (words line) steps

-- the lines of a repeat: the one that begins it, those of its steps, and the one that ends it
abbrev pub IsRepeatOfLines : LineGroup → Type 0
IsRepeatOfLines group =
    (first : List ℕ) × (count : ℕ) × (body : List (List ℕ)) × (steps : List Step) × (last : List ℕ)
    × (group.lines ≡ first ∷ (body ++ last ∷ [])) × (group.items ≡ Repeated count steps ∷ [])
    × SpellsBeginningOfRepeat (words first) count × SpellsLines body steps × IsRepeatEndLine (words last)

-- these lines together spell one item that this version allows, or none
abbrev pub IsLineGroup : Version → LineGroup → Type 0
IsLineGroup version group = IsOneLineGroup group ⊎ (AllowsRepeats version × IsRepeatOfLines group)

-- these lines spell these items, group by group
abbrev pub SpellsGroups : Version → List (List ℕ) → List Item → Type 0
SpellsGroups version ls items =
    (groups : List LineGroup) × (ls ≡ flat_map (λ group. group.lines) groups)
    × (items ≡ flat_map (λ group. group.items) groups)
    × AllByRecursion (IsLineGroup version) groups

-- The first of these lines with a word gives version 2. The rest stands after it, and its first
-- line has the number n.
pub record SaysVersionTwo (ls : List (List ℕ)) (n : ℕ) (rest : List (List ℕ)) : Type 0 where
  pub before : List (List ℕ)
  pub line : List ℕ
  pub blank : AllByRecursion (λ other. words other ≡ []) before
  pub version : IsVersionTwo (words line)
  pub whole : ls ≡ before ++ line ∷ rest
  pub number : n ≡ length before + 2

-- The lines of the items of a script of this version begin at this line of a text. In version 1
-- they are all its lines, in version 2 those after the line that gives the version.
abbrev pub ItemsBeginAtLine : Version → List (List ℕ) → ℕ → List (List ℕ) → Type 0
ItemsBeginAtLine One ls n rest = (n ≡ 1) × (rest ≡ ls)
ItemsBeginAtLine Two ls n rest = SaysVersionTwo ls n rest

-- the text spells a script that means no more steps than a script may
abbrev pub SpellsText : List ℕ → ScriptItems → Type 0
SpellsText text script =
    (n : ℕ) × (rest : List (List ℕ)) × ItemsBeginAtLine script.version (lines text) n rest
    × SpellsGroups script.version rest script.items
    × (length (expanded script.items) ≤ step_limit)

-- a line outside repeats that spells neither a step nor, in this version, the beginning of a repeat
abbrev pub IsBadLineOutsideRepeats : Version → List ℕ → Type 0
IsBadLineOutsideRepeats version line =
    ((steps : List Step) → SpellsLine (words line) steps → ⊥)
    × (AllowsRepeats version → (count : ℕ) → SpellsBeginningOfRepeat (words line) count → ⊥)

-- a line in a repeat that spells neither a step nor the repeat's end
abbrev pub IsBadLineInRepeat : List ℕ → Type 0
IsBadLineInRepeat line = ((steps : List Step) → SpellsLine (words line) steps → ⊥)
    × (IsRepeatEndLine (words line) → ⊥)

-- The lines begin with a repeat, and the rest stands in it, `distance` lines after its first.
-- Between the two are lines of steps.
pub record StandsInRepeatLines (version : Version) (ls : List (List ℕ)) (distance : ℕ)
    (rest : List (List ℕ)) : Type 0 where
  pub first : List ℕ
  pub count : ℕ
  pub body : List (List ℕ)
  pub steps : List Step
  pub allowed : AllowsRepeats version
  pub begins : SpellsBeginningOfRepeat (words first) count
  pub good : SpellsLines body steps
  pub whole : ls ≡ first ∷ (body ++ rest)
  pub distance_is : distance ≡ length body + 1

-- Why line `bad` is bad, where these lines begin with line n of a script of this version, after
-- items that mean `so_far` steps. Line n is bad outside repeats; or a later line is bad in the
-- repeat that line n begins; or that repeat has no end; or with the group that line n begins the
-- script means more steps than it may.
abbrev pub IsGroupFault : Version → ℕ → ℕ → List (List ℕ) → ℕ → Type 0
IsGroupFault version so_far n ls bad =
    ((bad ≡ n) × ((line : List ℕ) × (others : List (List ℕ)) × (ls ≡ line ∷ others)
    × IsBadLineOutsideRepeats version line))
    ⊎ (((distance : ℕ) × (line : List ℕ) × (others : List (List ℕ)) × (bad ≡ n + distance)
    × StandsInRepeatLines version ls distance (line ∷ others) × IsBadLineInRepeat line)
    ⊎ (((bad ≡ n) × ((distance : ℕ) × StandsInRepeatLines version ls distance []))
    ⊎ ((bad ≡ n) × ((group : LineGroup) × (others : List (List ℕ)) × (ls ≡ group.lines ++ others)
    × IsLineGroup version group × (step_limit < so_far + length (expanded group.items))))))

-- The lines of a text before line n, counted from 1, spell a script, and the rest begins with line
-- n. If the first line with a word does not give version 2, the text is of version 1.
pub record SpellsLinesUpTo (text : List ℕ) (script : ScriptItems) (n : ℕ)
    (left : List (List ℕ)) : Type 0 where
  pub start : ℕ
  pub rest : List (List ℕ)
  pub prefix : List (List ℕ)
  pub from : ItemsBeginAtLine script.version (lines text) start rest
  pub one : script.version ≡ One → (m : ℕ) (others : List (List ℕ)) →
      SaysVersionTwo (lines text) m others → ⊥
  pub whole : rest ≡ prefix ++ left
  pub good : SpellsGroups script.version prefix script.items
  pub few : length (expanded script.items) ≤ step_limit
  pub number : n ≡ start + length prefix

-- line n is the first bad line: the groups before it are good, and it makes the next one bad
abbrev pub IsFirstBadLine : List ℕ → ℕ → Type 0
IsFirstBadLine text bad =
    (script : ScriptItems) × (n : ℕ) × (left : List (List ℕ)) × SpellsLinesUpTo text script n left
    × IsGroupFault script.version (length (expanded script.items)) n left bad

-- the fault of a text whose first bad line has this number
abbrev pub IsFaultOfFirstBadLine : List ℕ → Fault → Type 0
IsFaultOfFirstBadLine text (BadLine n) = IsFirstBadLine text n
IsFaultOfFirstBadLine text _ = ⊥
