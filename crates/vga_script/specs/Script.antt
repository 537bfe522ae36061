-- Scripts, and the first fault of a text that spells none.
use Rattle.std.specs.Prelude.{ℕ, ◌<◌, ◌≤◌, ◌⊎◌, List, length}
use Rattle.vga_bits.specs.declared.fault.Fault.{Fault}
use Rattle.vga_bits.specs.declared.fault.Fault.TheVariants.{TooLong, BadLine}
use Rattle.vga_script.specs.Item.{ScriptItems, expanded, step_limit, AreItemsOf}
use Rattle.vga_script.specs.Spelling.{script_limit, encoding}
use Rattle.vga_script.specs.Text.{SpellsText, IsFirstBadLine}

-- A script: items that its version allows, which mean no more steps and have no more bytes than a
-- script may.
pub record IsScript (script : ScriptItems) : Type 0 where
  pub range : AreItemsOf script.version script.items
  pub few : length (expanded script.items) ≤ step_limit
  pub short : length (encoding script) ≤ script_limit

-- a text spells a script of more bytes than a script may have
abbrev pub SpellsTooLongScript : List ℕ → Type 0
SpellsTooLongScript text = (script : ScriptItems) × SpellsText text script
    × (script_limit < length (encoding script))

-- The first fault of a text: it is too long; or one of its lines is bad; or its script has too many
-- bytes. They are judged in this order.
abbrev pub IsTextFault : List ℕ → Fault → Type 0
IsTextFault text TooLong = (script_limit < length text)
    ⊎ ((length text ≤ script_limit) × SpellsTooLongScript text)
IsTextFault text (BadLine n) = (length text ≤ script_limit) × IsFirstBadLine text n
IsTextFault text _ = ⊥
