-- One attempt to rebuild a state.
use Rattle.std.specs.Prelude.{⊤}
use Rattle.vga_run.specs.declared.machine.Machine.{Machine}
use Rattle.vga_rebuild.specs.Rebuilt.{IsRebuilt}
use Rattle.vga_rebuild.specs.declared.attempt.Attempt.{Attempt}
use Rattle.vga_rebuild.specs.declared.attempt.Attempt.TheVariants.{There, Elsewhere}

-- the state is rebuilt, or the steps of the attempt lead elsewhere
abbrev pub IsRebuiltOrElsewhere : Machine → Attempt → Type 0
IsRebuiltOrElsewhere machine (There rebuilt) = IsRebuilt machine rebuilt
IsRebuiltOrElsewhere machine (Elsewhere beam) = ⊤
