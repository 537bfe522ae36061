-- A position in the bytes of a script, and the steps that are left from there on.
use Rattle.std.specs.Prelude.{ℕ, ◌≡◌, ◌⊎◌, ◌+◌, ◌<◌, List, [], ◌∷◌, ◌++◌, length, drop}
use Rattle.std.specs.List.{flat_map}
use Rattle.vga_script.specs.declared.step.Step.{Step}
use Rattle.vga_script.specs.declared.version.Version.TheVariants.{Two}
use Rattle.vga_script.specs.Beginning.{steps_in, behind_steps, items_in}
use Rattle.vga_script.specs.Item.{Item, repeated, expanded, AreItemsOf}
use Rattle.vga_script.specs.Spelling.{opcode_end, spelling, item_spelling, StartsWithStep}
use Rattle.vga_script.specs.Step.{AreInRange}

-- The steps that are left from the rest of a script's bytes on: between items, if there is no body;
-- or in a repeat with this body, which is taken `left` more times once its end is reached.
unfoldable pub steps_left : ℕ → List ℕ → List ℕ → List Step
steps_left left [] rest = expanded (items_in rest)
steps_left left (byte ∷ body) rest = steps_in rest ++ (repeated left (steps_in (byte ∷ body))
    ++ expanded (items_in (drop 1 (behind_steps rest))))

-- Between items: the rest spells items.
pub record IsOutsideRepeat (body rest : List ℕ) : Type 0 where
  pub items : List Item
  pub fit : AreItemsOf Two items
  pub none : body ≡ []
  pub spelled : rest ≡ flat_map item_spelling items

-- In a repeat: the steps before the rest are done. The rest spells those still to do, the repeat's
-- end, and items.
pub record IsInsideRepeat (body rest : List ℕ) : Type 0 where
  pub done : List Step
  pub todo : List Step
  pub items : List Item
  pub some : 0 < length done + length todo
  pub done_fit : AreInRange done
  pub todo_fit : AreInRange todo
  pub fit : AreItemsOf Two items
  pub all : body ≡ flat_map spelling done ++ (flat_map spelling todo
      ++ opcode_end ∷ flat_map item_spelling items)
  pub spelled : rest ≡ flat_map spelling todo ++ opcode_end ∷ flat_map item_spelling items

-- the rest stands in one of the two ways
abbrev pub StandsInOrOutsideRepeat : List ℕ → List ℕ → Type 0
StandsInOrOutsideRepeat body rest = IsOutsideRepeat body rest ⊎ IsInsideRepeat body rest

-- the bytes are empty, or begin with a step
abbrev pub IsEmptyOrBeginsWithStep : List ℕ → Type 0
IsEmptyOrBeginsWithStep rest = (rest ≡ []) ⊎ ((step : Step) × (others : List ℕ)
    × StartsWithStep rest step others)

-- The position moves on, and the steps that are left stay the same.
pub record LeavesSameSteps (left : ℕ) (body rest : List ℕ) (left_there : ℕ)
    (body_there rest_there : List ℕ) : Type 0 where
  pub stands : StandsInOrOutsideRepeat body_there rest_there
  pub same : steps_left left_there body_there rest_there ≡ steps_left left body rest
