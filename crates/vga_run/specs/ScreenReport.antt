-- The report of BIOS calls and whole frames in terms of the plain screen only: without cycles, and
-- without registers or addresses except the values of the mode table. From the IBM PS/2 and PC BIOS
-- Interface Technical Reference, "Interrupt 10H - Video".
use Rattle.std.specs.Prelude.{ℕ, ◌≡◌, ◌≢◌, ◌+◌, ◌⊎◌, false, List, [], ◌∷◌, ◌++◌, length, Option}
use Rattle.std.specs.Prelude.{None, Some, Result, Ok, Err}
use Rattle.std.specs.List.{AllByRecursion}
use Rattle.vga_bits.specs.declared.fault.Fault.{Fault}
use Rattle.vga_bits.specs.declared.refusal.Refusal.{Refusal}
use Rattle.vga_bits.specs.declared.refusal.Refusal.TheVariants.{BadFunction, BadMode}
use Rattle.bios_modes.specs.declared.modes.ModeRow.{ModeRow}
use Rattle.bios_modes.specs.Modes.{mode_row}
use Rattle.bios_modes.specs.Fonts.{FontSet}
use Rattle.bios_services.specs.declared.regs.Regs.{Regs}
use Rattle.bios_services.specs.declared.reply.Reply.{Reply as ServiceReply}
use Rattle.bios_services.specs.declared.reply.Table.TheVariants.{Empty}
use Rattle.bios_services.specs.declared.call.Call.{Call}
use Rattle.bios_services.specs.declared.call.Call.TheVariants.{SetMode, ReadTable, LoadGlyphs}
use Rattle.bios_services.specs.declared.call.Call.TheVariants.{InMode}
use Rattle.bios_services.specs.Calls.{call_of}
use Rattle.bios_services.specs.Tables.{table_refusal}
use Rattle.bios_screen.specs.Screen.{Screen}
use Rattle.bios_screen.specs.Step.{refusal_on, next, answer_on}
use Rattle.bios_screen.specs.Colours.{table_answer}
use Rattle.bios_screen.specs.Loaded.{load_refusal_on, load_glyphs}
use Rattle.bios_screen.specs.Called.{reply_unless_refused, screen_unless_refused, table_reply_unless_refused}
use Rattle.bios_screen.specs.Fresh.{fresh_screen}
use Rattle.bios_screen.specs.Picture.{dot_colour_at, picture_width, picture_height, next_frame}
use Rattle.bios_screen.specs.Raster.{picture_bytes}
use Rattle.vga_script.specs.declared.step.Step.{Step}
use Rattle.vga_script.specs.declared.step.Step.TheVariants.{Int, Frame}
use Rattle.vga_run.specs.KnownReport.{WritesReportOrPrefix, RunWritesKnownReport}
use Rattle.vga_run.specs.Answer.{StepAnswer, Served, Picture, Ragged, of_service}
use Rattle.vga_run.specs.Report.{line}

-- ---- which steps

-- a mode set that clears the memory, of a mode that exists
abbrev pub IsClearingModeSet : Option Call → Type 0
IsClearingModeSet (Some (SetMode mode keeps)) = (mode_row mode ≢ None) × (keeps ≡ false)
IsClearingModeSet call = ⊥

-- a call that leads from a screen to a screen: it sets no mode; or it clears the memory; or its
-- mode does not exist
abbrev pub IsScreenReportCall : Option Call → Type 0
IsScreenReportCall (Some (SetMode mode keeps)) = IsClearingModeSet (Some (SetMode mode keeps))
    ⊎ (mode_row mode ≡ None)
IsScreenReportCall call = Unit {0}

-- the registers of a call
abbrev pub registers_of : ℕ → ℕ → ℕ → ℕ → Regs
registers_of ax bx cx dx = record { ax = ax; bx = bx; cx = cx; dx = dx }

-- a call that a screen report may have, or a whole frame
abbrev pub IsScreenReportStep : Step → Type 0
IsScreenReportStep (Int ax bx cx dx block) = IsScreenReportCall (call_of (registers_of ax bx cx dx))
IsScreenReportStep Frame = Unit {0}
IsScreenReportStep step = ⊥

-- all steps may stand in a screen report, and the first is a mode set that clears the memory
abbrev pub AreScreenReportSteps : List Step → Type 0
AreScreenReportSteps (Int ax bx cx dx block ∷ steps) =
    IsClearingModeSet (call_of (registers_of ax bx cx dx))
    × AllByRecursion IsScreenReportStep steps
AreScreenReportSteps steps = ⊥

-- ---- what a step answers, and the screen after it

-- a mode set that clears the memory: the fresh screen, or the old one if the mode does not exist
abbrev pub screen_after_mode_set : Option ModeRow → ℕ → FontSet → Regs → Screen → Screen
    × Result ServiceReply Refusal
screen_after_mode_set None mode fonts r s = (s, Err BadMode)
screen_after_mode_set (Some row) mode fonts r s = (
  fresh_screen mode row fonts.f16 s.frame,
  Ok (record { regs = r; table = Empty }),
)

-- the screen after a call
abbrev pub call_on_screen : Option Call → FontSet → Regs → List ℕ → Screen → Screen
    × Result ServiceReply Refusal
call_on_screen None fonts r block s = (s, Err BadFunction)
call_on_screen (Some (SetMode mode keeps)) fonts r block s =
    screen_after_mode_set (mode_row mode) mode fonts r s
call_on_screen (Some (ReadTable service)) fonts r block s =
    (s, table_reply_unless_refused (table_refusal service) (table_answer s service) r)
call_on_screen (Some (LoadGlyphs load)) fonts r block s =
    let why = load_refusal_on s load (length block) in
    (screen_unless_refused why s (load_glyphs fonts s load block), reply_unless_refused why r)
call_on_screen (Some (InMode service)) fonts r block s =
    let why = refusal_on s service (length block) in (
      screen_unless_refused why s (next fonts s service block),
      reply_unless_refused why (answer_on fonts s service r),
    )

-- what a call answers, and a frame: the picture of the active page; there are no other steps
unfoldable pub answer_on_screen : FontSet → Screen → Step → StepAnswer
answer_on_screen fonts s (Int ax bx cx dx block) = let r = registers_of ax bx cx dx in
    of_service (call_on_screen (call_of r) fonts r block s).1
answer_on_screen fonts s Frame = Picture (picture_width s) (picture_height s)
    (picture_bytes (picture_width s) (picture_height s) (dot_colour_at s s.page))
answer_on_screen fonts s step = Ragged

-- the screen after a step
unfoldable pub screen_after : FontSet → Screen → Step → Screen
screen_after fonts s (Int ax bx cx dx block) = let r = registers_of ax bx cx dx in
    (call_on_screen (call_of r) fonts r block s).0
screen_after fonts s Frame = next_frame s
screen_after fonts s step = s

-- ---- the report

-- the lines of these steps on this screen; the first has the number n
abbrev pub screen_report_from : FontSet → Screen → ℕ → List Step → List ℕ
screen_report_from fonts s n [] = []
screen_report_from fonts s n (step ∷ steps) = line n (answer_on_screen fonts s step)
    ++ screen_report_from fonts (screen_after fonts s step) (n + 1) steps

-- the line of the first step, which sets a mode, and those of the others on the fresh screen, in
-- frame 0
abbrev pub mode_set_report : Option ModeRow → ℕ → FontSet → Regs → List Step → List ℕ
mode_set_report None mode fonts r steps = []
mode_set_report (Some row) mode fonts r steps = line 1 (Served r [])
    ++ screen_report_from fonts (fresh_screen mode row fonts.f16 0) 2 steps

-- the report whose first step is this call, which must set a mode
abbrev pub report_that_begins_with_call : Option Call → FontSet → Regs → List Step → List ℕ
report_that_begins_with_call (Some (SetMode mode keeps)) fonts r steps =
    mode_set_report (mode_row mode) mode fonts r steps
report_that_begins_with_call call fonts r steps = []

-- the report of these steps; the first sets a mode
abbrev pub screen_report : FontSet → List Step → List ℕ
screen_report fonts (Int ax bx cx dx block ∷ steps) = let r = registers_of ax bx cx dx in
    report_that_begins_with_call (call_of r) fonts r steps
screen_report fonts steps = []

-- ---- a run

-- What the run of such steps answers with these fonts: the plain screen's report.
abbrev pub WritesScreenReport : FontSet → List Step → Option (List ℕ) → Option (List ℕ) →
    Result Unit Fault → Type 0
WritesScreenReport fonts steps before after result =
    WritesReportOrPrefix (screen_report fonts steps) before after result

-- What a run with a font file and without a limit answers: that report, if its input spells such
-- steps.
abbrev pub RunWritesScreenReport : Option ℕ → List ℕ → Option (List ℕ) → Option (List ℕ) → Option
    (List ℕ) →
    Result Unit Fault → Type 0
RunWritesScreenReport until file input before after result =
    RunWritesKnownReport (λ (fonts : FontSet). AreScreenReportSteps) screen_report until file input before after
    result
