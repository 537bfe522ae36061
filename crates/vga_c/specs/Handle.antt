-- A card in the memory of a C program.
use Rattle.std.specs.Prelude.{Bool, ℕ}
use Rattle.vga_card.specs.declared.line_ahead.LineAhead.{LineAhead}
use Rattle.vga_card.specs.LineAhead.{IsLineAhead}
use Rattle.vga_script.specs.declared.step.Step.TheVariants.{Advance}
use Rattle.vga_run.specs.declared.machine.Machine.{Machine}
use Rattle.vga_run.specs.Step.{after_step}
use Rattle.vga_c.specs.declared.sealed.Sealed.{Sealed}

-- Whether the card is open, how many dots of the clock it owes, what is known of the line ahead, and
-- the machine that it keeps.
pub record HandleState : Type 0 where
  pub is_open : Bool
  pub owed : ℕ
  pub line : LineAhead
  pub kept : Sealed

-- the machine of an open card: the one it keeps, after the dots that it owes
unfoldable pub machine_after_owed_dots : HandleState → Machine
machine_after_owed_dots card = after_step card.kept.machine (Advance card.owed)

-- what is known of the line ahead of one machine's beam is true of another's
abbrev pub KeepsLineAhead : Machine → Machine → Type 0
KeepsLineAhead old new = (line : LineAhead) → IsLineAhead line old.card → IsLineAhead line new.card
