-- The report of BIOS calls, dots and frames in terms of the plain screen only, without registers,
-- addresses or cycles. From the IBM PS/2 and PC BIOS Interface Technical Reference, "Interrupt 10H
-- - Video".
use Rattle.std.specs.Prelude.{ℕ, ◌≡◌, ◌+◌, ◌⊎◌, nat_le, if◌then◌else◌, List, [], ◌∷◌, ◌++◌, length}
use Rattle.std.specs.Prelude.{Option, Some, None, Result}
use Rattle.vga_bits.specs.declared.fault.Fault.{Fault}
use Rattle.vga_bits.specs.declared.refusal.Refusal.TheVariants.{TooFar}
use Rattle.vga_card.specs.Dots.{most_dots_of_an_advance}
use Rattle.bios_modes.specs.Modes.{mode_row, colour_text}
use Rattle.bios_modes.specs.Fonts.{FontSet}
use Rattle.bios_services.specs.declared.call.Call.{Call}
use Rattle.bios_services.specs.declared.call.Call.TheVariants.{SetMode, LoadGlyphs}
use Rattle.bios_services.specs.Calls.{call_of}
use Rattle.bios_screen.specs.Drawing.{Drawing, take_dots, take_frame, MayLoadGlyphs}
use Rattle.bios_screen.specs.Fresh.{fresh_text}
use Rattle.bios_screen.specs.Picture.{picture_width, picture_height}
use Rattle.vga_script.specs.declared.step.Step.{Step}
use Rattle.vga_script.specs.declared.step.Step.TheVariants.{Int, Advance, Frame}
use Rattle.vga_run.specs.declared.answer.Answer.TheVariants.{Done, Refused}
use Rattle.vga_run.specs.Answer.{StepAnswer, Short, Picture, Ragged, of_service}
use Rattle.vga_run.specs.ScreenReport.{IsClearingModeSet, registers_of, call_on_screen}
use Rattle.vga_run.specs.KnownReport.{WritesReportOrPrefix, RunWritesKnownReport}
use Rattle.vga_run.specs.Report.{line}

-- what a step answers: a call answers as on the screen at that moment, and a frame with the picture
-- whose last dot it draws; there are no other steps
unfoldable pub answer_on_drawing : FontSet → Drawing → Step → StepAnswer
answer_on_drawing fonts b (Int ax bx cx dx block) = let r = registers_of ax bx cx dx in
    of_service (call_on_screen (call_of r) fonts r block b.screen).1
answer_on_drawing fonts b (Advance count) =
    Short (if nat_le count most_dots_of_an_advance then Done else Refused TooFar)
answer_on_drawing fonts b Frame = Picture (picture_width b.screen) (picture_height b.screen)
    (take_frame b).picture
answer_on_drawing fonts b step = Ragged

-- what a step leaves
unfoldable pub drawing_after : FontSet → Drawing → Step → Drawing
drawing_after fonts b (Int ax bx cx dx block) = let r = registers_of ax bx cx dx in
    record b { screen = (call_on_screen (call_of r) fonts r block b.screen).0 }
drawing_after fonts b (Advance count) = if nat_le count most_dots_of_an_advance then take_dots count b else b
drawing_after fonts b Frame = take_frame b
drawing_after fonts b step = b

-- the lines of these steps; the first has the number n
abbrev pub dot_report_from : FontSet → Drawing → ℕ → List Step → List ℕ
dot_report_from fonts b n [] = []
dot_report_from fonts b n (step ∷ steps) = line n (answer_on_drawing fonts b step)
    ++ dot_report_from fonts (drawing_after fonts b step) (n + 1) steps

-- Power-on: dot 0 of frame 0 comes next. The screen does not matter here, since the first step sets
-- a mode.
abbrev pub power_on_drawing : FontSet → Drawing
power_on_drawing fonts = record {
  screen = fresh_text 0x03 colour_text fonts.f16 0;
  dot = 0;
  page = 0;
  picture = [];
}

-- the report of these steps, from power-on
abbrev pub dot_report : FontSet → List Step → List ℕ
dot_report fonts steps = dot_report_from fonts (power_on_drawing fonts) 1 steps

-- ---- which steps

-- A call, with a block of this length, that leads from a screen to a screen: a mode set that clears
-- the memory at dot 0, or of a mode that does not exist; a load of glyphs at dot 0, or one that is
-- refused; or any other call, at any dot.
abbrev pub IsDotReportCall : Drawing → ℕ → Option Call → Type 0
IsDotReportCall b len (Some (SetMode mode keeps)) =
    (IsClearingModeSet (Some (SetMode mode keeps)) × (b.dot ≡ 0))
    ⊎ (mode_row mode ≡ None)
IsDotReportCall b len (Some (LoadGlyphs load)) = MayLoadGlyphs b load len
IsDotReportCall b len call = Unit {0}

-- a call that a dot report may have, an advance, or a frame
abbrev pub IsDotReportStep : Drawing → Step → Type 0
IsDotReportStep b (Int ax bx cx dx block) =
    IsDotReportCall b (length block) (call_of (registers_of ax bx cx dx))
IsDotReportStep b (Advance count) = Unit {0}
IsDotReportStep b Frame = Unit {0}
IsDotReportStep b step = ⊥

-- all steps may stand in a dot report
abbrev pub AllDotReportSteps : FontSet → Drawing → List Step → Type 0
AllDotReportSteps fonts b [] = Unit {0}
AllDotReportSteps fonts b (step ∷ steps) =
    IsDotReportStep b step × AllDotReportSteps fonts (drawing_after fonts b step)
    steps

-- all steps may stand in a dot report, and the first is a mode set that clears the memory
abbrev pub AreDotReportSteps : FontSet → List Step → Type 0
AreDotReportSteps fonts (Int ax bx cx dx block ∷ steps) =
    IsClearingModeSet (call_of (registers_of ax bx cx dx))
    × AllDotReportSteps fonts (power_on_drawing fonts) (Int ax bx cx dx block ∷ steps)
AreDotReportSteps fonts steps = ⊥

-- ---- a run

-- What the run of such steps answers with these fonts: the plain screen's report, dot by dot.
abbrev pub WritesDotReport : FontSet → List Step → Option (List ℕ) → Option (List ℕ) →
    Result Unit Fault → Type 0
WritesDotReport fonts steps before after result =
    WritesReportOrPrefix (dot_report fonts steps) before after result

-- What a run with a font file and without a limit answers: that report, if its input spells such
-- steps.
abbrev pub RunWritesDotReport : Option ℕ → List ℕ → Option (List ℕ) → Option (List ℕ) → Option
    (List ℕ) →
    Result Unit Fault → Type 0
RunWritesDotReport until file input before after result =
    RunWritesKnownReport AreDotReportSteps dot_report until file input before after result
