-- The items of a script, and the steps that they mean.
use Rattle.std.specs.Prelude.{ℕ, zero, suc, ◌<◌, ◌^◌, List, [], ◌∷◌, ◌++◌}
use Rattle.std.specs.List.{AllByRecursion, flat_map}
use Rattle.vga_script.specs.declared.step.Step.{Step}
use Rattle.vga_script.specs.declared.version.Version.{Version}
use Rattle.vga_script.specs.Step.{IsInRange, AreInRange}
use Rattle.vga_script.specs.Version.{AllowsRepeats}

-- An item of a script: one step, or a repeat of steps, which are taken in order as often as the
-- count says.
pub data Item : Type 0 where
  Once : Step → Item
  Repeated : ℕ → List Step → Item

-- A script: its version, and its items in order.
pub record ScriptItems : Type 0 where
  pub version : Version
  pub items : List Item

-- a script of this version and these items
abbrev pub script_of_items : Version → List Item → ScriptItems
script_of_items version items = record { version = version; items = items }

-- The steps n times over. It is opaque, since n may be in the thousands.
unfoldable pub repeated : ℕ → List Step → List Step
repeated zero steps = []
repeated (suc times) steps = steps ++ repeated times steps

-- the steps that an item means: the step itself, or those of a repeat as often as its count says
abbrev pub steps_of_item : Item → List Step
steps_of_item (Once step) = step ∷ []
steps_of_item (Repeated count steps) = repeated count steps

-- the steps that items mean, item by item
abbrev pub expanded : List Item → List Step
expanded items = flat_map steps_of_item items

-- how many steps a script may mean
abbrev pub step_limit : ℕ
step_limit = 16777216

-- This item may stand in a script of this version: a step in range; or, if the version has repeats,
-- a repeat of steps in range whose count is 1 to 65,535.
abbrev pub IsItemOf : Version → Item → Type 0
IsItemOf version (Once step) = IsInRange step
IsItemOf version (Repeated count steps) = AllowsRepeats version × (0 < count) × (count < 2 ^ 16)
    × AreInRange steps

-- all of these items may stand in a script of this version
abbrev pub AreItemsOf : Version → List Item → Type 0
AreItemsOf version items = AllByRecursion (IsItemOf version) items
