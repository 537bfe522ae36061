-- A script that rebuilds the state of a card, as the caller gets it.
use Rattle.std.specs.Prelude.{◌≡◌, ◌⊎◌, ℕ, Bool, true, false, List}
use Rattle.vga_rebuild.specs.declared.rebuilt.Likeness.{Likeness}
use Rattle.vga_rebuild.specs.declared.rebuilt.Likeness.TheVariants.{Same, SameButForDots}
use Rattle.vga_rebuild.specs.declared.rebuilt.NotRebuilt.{NotRebuilt}
use Rattle.vga_rebuild.specs.declared.rebuilt.NotRebuilt.TheVariants.{OutOfMemory, TooLong, NotLedThere}
use Rattle.vga_rebuild.specs.declared.rebuilt.Rebuilt.{Rebuilt}
use Rattle.vga_rebuild.specs.Rebuilt.{IsRebuilt}
use Rattle.vga_run.specs.declared.machine.Machine.{Machine}
use Rattle.vga_c.specs.Buffers.{IsCopied}
use Rattle.vga_c.specs.Handle.{HandleState, machine_after_owed_dots}
use Rattle.vga_c.specs.Status.{no_rebuilding_status, out_of_memory_status, script_too_long_status}

-- The caller's output: a script, its length, and whether the dots of the frame under way are other.
pub record RebuildingOutput : Type 0 where
  pub script : List ℕ
  pub len : ℕ
  pub dots_other : Bool

-- an output with these contents
abbrev pub rebuilding_output : List ℕ → ℕ → Bool → RebuildingOutput
rebuilding_output script len dots_other =
    record { script = script; len = len; dots_other = dots_other }

-- the status that says why a state is not rebuilt
abbrev pub not_rebuilt_status : NotRebuilt → ℕ
not_rebuilt_status OutOfMemory = out_of_memory_status
not_rebuilt_status TooLong = script_too_long_status
not_rebuilt_status NotLedThere = no_rebuilding_status

-- whether the frame under way was drawn otherwise in the rebuilt state
abbrev pub are_dots_other : Likeness → Bool
are_dots_other Same = false
are_dots_other SameButForDots = true

-- the output has the script of a rebuilt state
abbrev pub IsHandedOver : Rebuilt → RebuildingOutput → RebuildingOutput → ℕ → Type 0
IsHandedOver rebuilt before after status =
    (after.dots_other ≡ are_dots_other rebuilt.likeness)
    × IsCopied rebuilt.script.items before.script after.script after.len status

-- the output has a script that rebuilds the machine
abbrev pub HasRebuilding : Machine → RebuildingOutput → RebuildingOutput → ℕ → Type 0
HasRebuilding m before after status = (rebuilt : Rebuilt) × IsRebuilt m rebuilt
    × IsHandedOver rebuilt before after status

-- the status says why the machine is not rebuilt, and the output is unchanged
abbrev pub HasNoRebuilding : RebuildingOutput → RebuildingOutput → ℕ → Type 0
HasNoRebuilding before after status = (why : NotRebuilt) × (status ≡ not_rebuilt_status why)
    × (after ≡ before)

-- the output has a script that rebuilds the machine, or the status says why there is none
abbrev pub GivesRebuilding : Machine → RebuildingOutput → RebuildingOutput → ℕ → Type 0
GivesRebuilding m before after status = HasRebuilding m before after status
    ⊎ HasNoRebuilding before after status

-- an open card gives a script that rebuilds it, or the status says why there is none
abbrev pub OpenCardGivesRebuilding : HandleState → RebuildingOutput → RebuildingOutput → ℕ → Type 0
OpenCardGivesRebuilding old before after status = old.is_open ≡ true →
    GivesRebuilding (machine_after_owed_dots old) before after status
