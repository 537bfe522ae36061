-- Scripts that rebuild the state of a machine.
use Rattle.std.specs.Prelude.{ℕ, ◌≡◌, [], List, codes}
use Rattle.bios_modes.specs.Fonts.{FontSet}
use Rattle.vga_script.specs.declared.step.Step.{Step}
use Rattle.vga_script.specs.Spelled.{SpellsExpanded}
use Rattle.vga_run.specs.declared.machine.Machine.{Machine}
use Rattle.vga_run.specs.Machine.{power_on_machine}
use Rattle.vga_run.specs.Saved.{machine_without_unseen_dots}
use Rattle.vga_run.specs.Step.{after_steps}
use Rattle.vga_rebuild.specs.declared.rebuilt.Likeness.{Likeness}
use Rattle.vga_rebuild.specs.declared.rebuilt.Likeness.TheVariants.{Same, SameButForDots}
use Rattle.vga_rebuild.specs.declared.rebuilt.NotRebuilt.{NotRebuilt}
use Rattle.vga_rebuild.specs.declared.rebuilt.NotRebuilt.TheVariants.{OutOfMemory, TooLong, NotLedThere}
use Rattle.vga_rebuild.specs.declared.rebuilt.Rebuilt.{Rebuilt}

-- the machine without the dots drawn until now of the frame under way
abbrev pub machine_without_dots : Machine → Machine
machine_without_dots m = record m { card = record m.card { drawn = [] } }

-- two machines are the same, except for dots that no step can see any more; or they are the same,
-- except for the dots drawn until now of the frame under way
abbrev pub AreAlike : Likeness → Machine → Machine → Type 0
AreAlike Same one other = machine_without_unseen_dots one ≡ machine_without_unseen_dots other
AreAlike SameButForDots one other = machine_without_dots one ≡ machine_without_dots other

-- the bytes spell a script whose steps lead from power-on, with these fonts, to this machine
abbrev pub LeadsTo : List ℕ → FontSet → Machine → Type 0
LeadsTo script fonts machine = (steps : List Step) × SpellsExpanded script steps
    × (machine ≡ after_steps (power_on_machine fonts) steps)

-- the script leads from power-on, with the machine's fonts, to a machine that is so like this one
abbrev pub IsRebuilt : Machine → Rebuilt → Type 0
IsRebuilt machine rebuilt = (reached : Machine) × LeadsTo rebuilt.script.items machine.fonts reached
    × AreAlike rebuilt.likeness reached machine

-- the name of an error
abbrev pub not_rebuilt_name : NotRebuilt → List ℕ
not_rebuilt_name OutOfMemory = codes "OutOfMemory"
not_rebuilt_name TooLong = codes "TooLong"
not_rebuilt_name NotLedThere = codes "NotLedThere"
