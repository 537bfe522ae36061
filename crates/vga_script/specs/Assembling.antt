-- How a text is assembled, group by group. No public clause cites this.
use Rattle.std.specs.Prelude.{ℕ, ◌≡◌, ◌≤◌, ◌+◌, ◌⊎◌, List, ◌∷◌, ◌++◌, length, Option}
use Rattle.std.specs.List.{flat_map}
use Rattle.vga_bits.specs.declared.fault.Fault.{Fault}
use Rattle.vga_bits.specs.declared.fault.Fault.TheVariants.{BadLine}
use Rattle.vga_script.specs.Item.{Item, Repeated, repeated, expanded}
use Rattle.vga_script.specs.Spelling.{spelling, item_spelling}
use Rattle.vga_script.specs.declared.step.Step.{Step}
use Rattle.vga_script.specs.declared.version.Version.{Version}
use Rattle.vga_script.specs.Tokens.{words, lines_of_rest, rest_len_with_one_for_its_end}
use Rattle.vga_script.specs.Text.{SpellsLine, SpellsLines, IsRepeatEndLine, IsBadLineInRepeat, LineGroup}
use Rattle.vga_script.specs.Text.{IsLineGroup}
use Rattle.vga_script.specs.Text.{IsGroupFault}

-- These lines, whose first has the number n, begin with the lines of some steps and the end of a
-- repeat. The rest of the text begins with line `next`.
pub record BeginsWithRepeatBody (n : ℕ) (left : Option (List ℕ)) (steps : List Step) (next : ℕ)
    (behind : Option (List ℕ)) : Type 0 where
  pub body : List (List ℕ)
  pub last : List ℕ
  pub good : SpellsLines body steps
  pub ends : IsRepeatEndLine (words last)
  pub whole : lines_of_rest left ≡ body ++ last ∷ lines_of_rest behind
  pub number : next ≡ n + length body + 1
  pub shorter : next + rest_len_with_one_for_its_end behind ≤ n + rest_len_with_one_for_its_end left

-- The fault of the lines after the first of a repeat, which has this number: one of them is bad, or
-- the repeat has no end.
abbrev pub IsRepeatBodyFault : ℕ → Option (List ℕ) → Fault → Type 0
IsRepeatBodyFault n left (BadLine bad) =
    ((bad ≡ n) × ((steps : List Step) × SpellsLines (lines_of_rest left) steps))
    ⊎ ((body : List (List ℕ)) × (steps : List Step) × (line : List ℕ) × (others : List (List ℕ))
    × (bad ≡ n + (length body + 1))
    × (lines_of_rest left ≡ body ++ line ∷ others) × SpellsLines body steps × IsBadLineInRepeat line)
IsRepeatBodyFault n left _ = ⊥

-- These lines, whose first has the number n, begin with the lines of a group. The rest of the text
-- begins with line `next`.
pub record BeginsWithGroup (version : Version) (n : ℕ) (ls : List (List ℕ)) (items : List Item)
    (next : ℕ)
    (behind : Option (List ℕ)) : Type 0 where
  pub group : LineGroup
  pub good : IsLineGroup version group
  pub items_are : group.items ≡ items
  pub whole : ls ≡ group.lines ++ lines_of_rest behind
  pub number : next ≡ n + length group.lines

-- the fault of the first group of these lines, whose first has this number
abbrev pub IsFirstGroupFault : Version → ℕ → List (List ℕ) → Fault → Type 0
IsFirstGroupFault version n ls (BadLine bad) = (so_far : ℕ) → IsGroupFault version so_far n ls bad
IsFirstGroupFault version n ls _ = ⊥

-- The bytes afterwards are those before, followed by those of the `len` steps that a line spells.
pub record AppendsStepsOfLine (line before after : List ℕ) (len : ℕ) : Type 0 where
  pub steps : List Step
  pub good : SpellsLine (words line) steps
  pub count : len ≡ length steps
  pub few : len ≤ 1
  pub bytes : after ≡ before ++ flat_map spelling steps

-- The bytes afterwards are those before, followed by those of the `len` steps that the lines of a
-- repeat after its first spell.
pub record AppendsRepeatBody (n : ℕ) (left : Option (List ℕ)) (before after : List ℕ) (len next : ℕ)
    (behind : Option (List ℕ)) : Type 0 where
  pub steps : List Step
  pub body : BeginsWithRepeatBody n left steps next behind
  pub count : len ≡ length steps
  pub few : len ≤ next
  pub bytes : after ≡ before ++ flat_map spelling steps

-- The bytes afterwards are those before, followed by those of a repeat of this count: its opcodes,
-- its count and its steps. It means `step_count_meant` steps.
pub record AppendsRepeat (n : ℕ) (left : Option (List ℕ)) (count : ℕ) (before after : List ℕ)
    (step_count_meant next : ℕ) (behind : Option (List ℕ)) : Type 0 where
  pub steps : List Step
  pub body : BeginsWithRepeatBody n left steps next behind
  pub means : step_count_meant ≡ length (repeated count steps)
  pub bytes : after ≡ before ++ item_spelling (Repeated count steps)

-- The bytes afterwards are those before, followed by those of the items that a group spells. They
-- mean `step_count_meant` steps.
pub record AppendsGroup (version : Version) (n : ℕ) (ls : List (List ℕ)) (before after : List ℕ)
    (step_count_meant next : ℕ) (behind : Option (List ℕ)) : Type 0 where
  pub items : List Item
  pub group : BeginsWithGroup version n ls items next behind
  pub means : step_count_meant ≡ length (expanded items)
  pub bytes : after ≡ before ++ flat_map item_spelling items
