-- Why runs of services, dots and frames write the plain screen's report, and that whole frames are such.
use Rattle.std.proofs.Common.{◌≡◌, inl, inr, ℕ, ◌*◌, ◌<◌, ◌==◌, List, [], ◌∷◌, length, Option, Some, None, if◌then◌else◌}
use Rattle.std.proofs.Common.{arith, refl}
use Rattle.std.specs.List.{AllByRecursion}
use Rattle.bios_modes.specs.Fonts.{FontSet}
use Rattle.bios_services.specs.declared.call.Call.{Call}
use Rattle.bios_services.specs.declared.call.Call.TheVariants.{SetMode, ReadTable, LoadGlyphs, InMode}
use Rattle.bios_services.specs.Calls.{call_of}
use Rattle.vga_script.specs.declared.step.Step.{Step}
use Rattle.vga_script.specs.declared.step.Step.TheVariants.{Int, Frame}
use Rattle.vga_run.specs.ScreenReport.{IsClearingModeSet, IsScreenReportCall, registers_of, IsScreenReportStep, AreScreenReportSteps}
use Rattle.bios_screen.specs.Drawing.{Drawing, total_dots_of_frame_in_mode, take_frame, columns_of_row}
use Rattle.bios_screen.specs.Whole.{FrameEndsAtDotZero}
use Rattle.vga_run.specs.DotReport.{drawing_after, power_on_drawing, IsDotReportCall, AllDotReportSteps, AreDotReportSteps}
use Rattle.bios_modes.specs.Kinds.{is_text_kind, is_kind_of_256_colours, kind_of_row}
use Rattle.bios_modes.proofs.RowLemmas.{each_mode}
use Rattle.bios_modes.specs.declared.modes.ModeRow.{ModeRow}
use Rattle.bios_screen.specs.Picture.{pixel_lines_of_row}

-- ---- whole frames

-- a frame of a mode with this row has dots
abbrev HasDots : Option ModeRow → Type 0
HasDots row =
    0 < (if pixel_lines_of_row row == 480 then 525 else 449)
    * (if is_text_kind (kind_of_row row) then 900 else 10 * ((if is_kind_of_256_colours (kind_of_row row) then 2 else 1) * columns_of_row row))

-- a frame has dots, whatever the mode
some_dots : (mode : ℕ) → 0 < total_dots_of_frame_in_mode mode
unfolding total_dots_of_frame_in_mode
some_dots = each_mode (λ _ row. HasDots row) (omega arith) (omega arith) (omega arith) (omega arith) (omega arith) (omega arith) (λ _. omega arith)

-- the law of the plain screen's frames
abbrev pub FramesEnd : Type 0
FramesEnd = (b : Drawing) → b.dot < total_dots_of_frame_in_mode b.screen.mode → FrameEndsAtDotZero b

stays_at : (b : Drawing) (len : ℕ) (call : Option Call) → b.dot ≡ 0 → IsScreenReportCall call → IsDotReportCall b len call
stays_at b len None e stays = tt
stays_at b len (Some (SetMode mode keeps)) e (inl clears) = inl (clears, e)
stays_at b len (Some (SetMode mode keeps)) e (inr none) = inr none
stays_at b len (Some (ReadTable service)) e stays = tt
stays_at b len (Some (LoadGlyphs load)) e stays = inr e
stays_at b len (Some (InMode service)) e stays = tt

clears_at : (b : Drawing) (len : ℕ) (call : Option Call) → b.dot ≡ 0 → IsClearingModeSet call → IsDotReportCall b len call
clears_at b len None e clears = absurd clears
clears_at b len (Some (SetMode mode keeps)) e clears = inl (clears, e)
clears_at b len (Some (ReadTable service)) e clears = absurd clears
clears_at b len (Some (LoadGlyphs load)) e clears = absurd clears
clears_at b len (Some (InMode service)) e clears = absurd clears

all_of_dots : FramesEnd → (fonts : FontSet) (b : Drawing) (steps : List Step) → b.dot ≡ 0 → AllByRecursion IsScreenReportStep steps → AllDotReportSteps fonts b steps
unfolding drawing_after
all_of_dots law fonts b [] e all = tt
all_of_dots law fonts b (Int ax bx cx dx block ∷ steps) e all = (
  stays_at b (length block) (call_of (registers_of ax bx cx dx)) e all.0,
  all_of_dots law fonts (drawing_after fonts b (Int ax bx cx dx block)) steps e
      all.1,
)
all_of_dots law fonts b (Frame ∷ steps) e all =
    let some = some_dots b.screen.mode in
    (tt, all_of_dots law fonts (take_frame b) steps (law b (omega arith)).dot all.1)
all_of_dots law fonts b (step ∷ steps) e all = absurd all.0

pub screens_are_dots : FramesEnd → (fonts : FontSet) (steps : List Step) → AreScreenReportSteps steps → AreDotReportSteps fonts steps
unfolding drawing_after
screens_are_dots law fonts [] all = absurd all
screens_are_dots law fonts (Int ax bx cx dx block ∷ steps) (clears, all) = (
  clears,
  (
    clears_at (power_on_drawing fonts) (length block) (call_of (registers_of ax bx cx dx)) refl clears,
    all_of_dots law fonts (drawing_after fonts (power_on_drawing fonts) (Int ax bx cx dx block)) steps refl all,
  ),
)
screens_are_dots law fonts (step ∷ steps) all = absurd all
