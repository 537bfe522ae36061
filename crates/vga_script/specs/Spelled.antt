-- Items that are read from the bytes of a script, and taking steps one after another.
use Rattle.std.specs.Prelude.{ℕ, ◌≡◌, ◌≤◌, List, [], ◌∷◌, Option, None, Some, length}
use Rattle.vga_script.specs.declared.step.Step.{Step}
use Rattle.vga_script.specs.declared.spelled_item.SpelledItem.{SpelledItem}
use Rattle.vga_script.specs.declared.spelled_item.SpelledItem.TheVariants as spelled
use Rattle.vga_script.specs.Beginning.{steps_in}
use Rattle.vga_script.specs.Item.{Item, Once, Repeated, ScriptItems, expanded}
use Rattle.vga_script.specs.Spelling.{script_limit, SpellsSteps, Spells}

-- the item that stands there
abbrev pub spelled_item : SpelledItem → Item
spelled_item (spelled.Step step) = Once step
spelled_item (spelled.Block count len steps) = Repeated count (steps_in steps.now)

-- the bytes of a repeat spell `len` steps
abbrev pub HasSpelledRepeatBody : SpelledItem → Type 0
HasSpelledRepeatBody (spelled.Step step) = Unit {0}
HasSpelledRepeatBody (spelled.Block count len steps) = SpellsSteps steps.now (steps_in steps.now)
    × (len ≡ length (steps_in steps.now)) × (len ≤ script_limit)

-- bytes that spell a script which means these steps
abbrev pub SpellsExpanded : List ℕ → List Step → Type 0
SpellsExpanded bytes steps = (script : ScriptItems) × Spells bytes script
    × (steps ≡ expanded script.items)

-- the first of these steps is taken, if there is one, and the others are left
abbrev pub TakesFirstStep : List Step → List Step → Option Step → Type 0
TakesFirstStep steps left None = (steps ≡ []) × (left ≡ [])
TakesFirstStep steps left (Some step) = steps ≡ step ∷ left
