-- Steps keep the fonts of a machine.
use Rattle.std.proofs.Common.{◌≡◌, ◌∙◌, refl, List, [], ◌∷◌}
use Rattle.vga_script.specs.declared.step.Step.{Step}
use Rattle.vga_script.specs.declared.step.Step.TheVariants.{Out, OutWord, In, InWord, Put, PutWord, Get, GetWord, Int, Advance, Frame, Show}
use Rattle.vga_run.specs.declared.machine.Machine.{Machine}
use Rattle.vga_run.specs.Step.{after_step, after_steps}

step_keeps_fonts : (m : Machine) (step : Step) → (after_step m step).fonts ≡ m.fonts
unfolding after_step
step_keeps_fonts m (Out port value) = refl
step_keeps_fonts m (OutWord port value) = refl
step_keeps_fonts m (In port) = refl
step_keeps_fonts m (InWord port) = refl
step_keeps_fonts m (Put address value) = refl
step_keeps_fonts m (PutWord address value) = refl
step_keeps_fonts m (Get address) = refl
step_keeps_fonts m (GetWord address) = refl
step_keeps_fonts m (Int ax bx cx dx block) = refl
step_keeps_fonts m (Advance count) = refl
step_keeps_fonts m Frame = refl
step_keeps_fonts m (Show what) = refl

pub steps_keep_fonts : (m : Machine) (steps : List Step) → (after_steps m steps).fonts ≡ m.fonts
steps_keep_fonts m [] = refl
steps_keep_fonts m (step ∷ steps) = steps_keep_fonts (after_step m step) steps ∙ step_keeps_fonts m step
