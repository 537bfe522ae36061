-- Why the report of services, dots and frames is the plain screen's.
use Rattle.std.proofs.Common.{◌≡◌, ◌∙◌, inl, inr, ℕ, ◌+◌, Bool, true, false, List, [], ◌∷◌, ◌++◌, Option, Some, None, Result, Ok, Err, if◌then◌else◌, arith}
use Rattle.std.proofs.Common.{refl, sym, ap, subst}
use Rattle.std.specs.Prelude.{nat_le, length}
use Rattle.vga_bits.specs.declared.refusal.Refusal.{Refusal}
use Rattle.vga_bits.specs.declared.refusal.Refusal.TheVariants.{BadFunction, BadMode, TooFar}
use Rattle.vga_crtc.specs.Raster.{IsFrameStart}
use Rattle.vga_card.specs.Bounds.{IsCard}
use Rattle.vga_card.specs.Card.{CardState, power_on_card}
use Rattle.vga_card.specs.Cycles.{WriteResult}
use Rattle.vga_card.specs.Dots.{dots, most_dots_of_an_advance}
use Rattle.vga_card.specs.Frames.{frame, card_dots_to_frame_end}
use Rattle.vga_card.specs.Picture.{bytes_of_dots}
use Rattle.bios_modes.specs.declared.modes.ModeRow.{ModeRow}
use Rattle.bios_modes.specs.Modes.{mode_row}
use Rattle.bios_modes.specs.Bda.{BiosData, power_on_data}
use Rattle.bios_modes.specs.Bounds.{IsBda, AreBytes, AreFonts}
use Rattle.bios_modes.specs.Fonts.{FontSet}
use Rattle.bios_services.specs.declared.regs.Regs.{Regs}
use Rattle.bios_services.specs.declared.reply.Reply.{Reply}
use Rattle.bios_services.specs.declared.call.Call.{Call}
use Rattle.bios_services.specs.declared.tables.TableService.{TableService}
use Rattle.bios_services.specs.declared.glyph_load.GlyphLoad.{GlyphLoad}
use Rattle.bios_services.specs.declared.call.Call.TheVariants.{SetMode, ReadTable, LoadGlyphs, InMode}
use Rattle.bios_services.specs.declared.call.Service.{Service}
use Rattle.bios_services.specs.Calls.{call_of}
use Rattle.bios_services.specs.Data.{AreValidData}
use Rattle.bios_services.specs.Service.{CallOutcome}
use Rattle.bios_screen.specs.Screen.{Screen}
use Rattle.bios_screen.specs.Shown.{shown}
use Rattle.bios_screen.specs.AfterCall.{after_call}
use Rattle.bios_screen.specs.Step.{refusal_on, next}
use Rattle.bios_screen.specs.Loaded.{load_refusal_on, load_glyphs}
use Rattle.bios_screen.specs.Called.{AreRegistersWords, screen_unless_refused}
use Rattle.bios_screen.specs.Fresh.{fresh_screen}
use Rattle.bios_screen.specs.Picture.{picture_width, picture_height}
use Rattle.vga_script.specs.declared.step.Step.{Step}
use Rattle.vga_script.specs.declared.step.Step.TheVariants.{Int, Advance, Frame}
use Rattle.vga_script.specs.Step.{IsInRange, AreInRange}
use Rattle.vga_run.specs.declared.machine.Machine.{Machine}
use Rattle.vga_run.specs.declared.answer.Answer.TheVariants.{Done, Refused}
use Rattle.vga_run.specs.Machine.{power_on_machine}
use Rattle.vga_run.specs.Answer.{Short, of_write, of_service, of_shape}
use Rattle.vga_run.specs.Step.{answer_to, after_step, after_int10}
use Rattle.vga_run.specs.Report.{line, report_from, report_of}
use Rattle.vga_run.proofs.ScreenLemmas.{Laws as ScreenLaws, row_of_mode, block_bytes, frame_shown}
use Rattle.vga_run.specs.ScreenReport.{IsClearingModeSet, registers_of, screen_after_mode_set, call_on_screen}
use Rattle.bios_screen.specs.Drawing.{Drawing, take_dots, MayLoadGlyphs}
use Rattle.bios_screen.specs.Follows.{CardFollowsDrawing, EndsFrame}
use Rattle.vga_run.specs.DotReport.{answer_on_drawing, drawing_after, dot_report_from, power_on_drawing, dot_report, IsDotReportCall, IsDotReportStep, AllDotReportSteps, AreDotReportSteps}

-- the laws of the crates below: those of screens, and what they say of dots
pub record Laws : Type 0 where
  pub screens : ScreenLaws
  pub served : (asked_for : Service) (fonts : FontSet) (r : Regs) (block : List ℕ) (c : CardState) (d : BiosData) (b : Drawing)
      → IsCard c → IsBda d → AreRegistersWords r → AreBytes block → CardFollowsDrawing c d b → call_of r ≡ Some (InMode asked_for)
      → CardFollowsDrawing (after_call fonts r block c d).0 (after_call fonts r block c d).1.1
      (record b { screen = screen_unless_refused (refusal_on b.screen asked_for (length block)) b.screen (next fonts b.screen asked_for block) })
  pub loads : (load : GlyphLoad) (fonts : FontSet) (r : Regs) (block : List ℕ) (c : CardState) (d : BiosData) (b : Drawing)
      → IsCard c → AreBytes block → AreFonts fonts → CardFollowsDrawing c d b → MayLoadGlyphs b load (length block) → call_of r ≡ Some (LoadGlyphs load)
      → CardFollowsDrawing (after_call fonts r block c d).0 (after_call fonts r block c d).1.1
      (record b { screen = screen_unless_refused (load_refusal_on b.screen load (length block)) b.screen (load_glyphs fonts b.screen load block) })
  pub table : (asked_for : TableService) (fonts : FontSet) (r : Regs) (block : List ℕ) (c : CardState) (d : BiosData) (b : Drawing)
      → IsCard c → CardFollowsDrawing c d b → call_of r ≡ Some (ReadTable asked_for) → CardFollowsDrawing (after_call fonts r block c d).0 (after_call fonts r block c d).1.1 b
  pub begins : (c : CardState) (d : BiosData) (b : Drawing) → IsCard c → shown c d ≡ Some b.screen → b.dot ≡ 0 → IsFrameStart c.crtc.beam → CardFollowsDrawing c d b
  pub starts : (c : CardState) (d : BiosData) (b : Drawing) → CardFollowsDrawing c d b → b.dot ≡ 0 → IsFrameStart c.crtc.beam
  pub dots_follow : (n : ℕ) (c : CardState) (d : BiosData) (b : Drawing) → IsCard c → CardFollowsDrawing c d b → CardFollowsDrawing (dots n c) d (take_dots n b)
  pub frame_follows : (c : CardState) (d : BiosData) (b : Drawing) → IsCard c → CardFollowsDrawing c d b → EndsFrame c d b

-- ---- one call

-- what a call answers, and that the adapter follows the screen that it leads to
record CallFollows (x : CardState × CallOutcome) (to : Screen × Result Reply Refusal) (b : Drawing) : Type 0 where
  reply : x.1.0 ≡ to.1
  follows : CardFollowsDrawing x.0 x.1.1 (record b { screen = to.0 })

-- a call that is refused and does nothing
refused_follows : (x : CardState × CallOutcome) (why : Refusal) (c : CardState) (d : BiosData) (b : Drawing) → x ≡ (c, (Err why, d)) → CardFollowsDrawing c d b →
    CallFollows x (b.screen, Err why) b
refused_follows x why c d b e is = record {
  reply = ap (λ (y : CardState × CallOutcome). y.1.0) e;
  follows = subst (λ (y : CardState × CallOutcome). CardFollowsDrawing y.0 y.1.1 b) (sym e) is;
}

-- a mode set that clears the memory, at dot 0
set_follows : Laws → (mode : ℕ) (keeps : Bool) (fonts : FontSet) (r : Regs) (block : List ℕ) (c : CardState) (d : BiosData) (b : Drawing)
    → IsClearingModeSet (Some (SetMode mode keeps)) → call_of r ≡ Some (SetMode mode keeps) → AreFonts fonts → IsCard c → b.screen.frame ≡ c.crtc.beam.frame → b.dot ≡ 0 →
    IsFrameStart c.crtc.beam
    → CallFollows (after_call fonts r block c d) (screen_after_mode_set (mode_row mode) mode fonts r b.screen) b
set_follows law mode keeps fonts r block c d b (has, clears) e glyphs z number zeroth start =
    let h = row_of_mode law.screens mode has in
    let f = h.fresh fonts r block c d z glyphs.f16 (e ∙ ap (λ (k : Bool). let call : Option Call = Some (SetMode mode k) in call) clears) in
    let t = fresh_screen mode h.row fonts.f16 b.screen.frame in
    let y = (after_call fonts r block c d).0 in
    let there : IsFrameStart y.crtc.beam = subst IsFrameStart (sym f.beam) start in
    let fresh : CallFollows (after_call fonts r block c d) (screen_after_mode_set (Some h.row) mode fonts r b.screen) b = record {
      reply = f.answer;
      follows = law.begins y (after_call fonts r block c d).1.1 (record b { screen = t }) (law.screens.card fonts d r block c z) (f.shows
          ∙ ap (λ (n : ℕ). Some (fresh_screen mode h.row fonts.f16 n)) (sym number)) zeroth there;
    } in
    subst (λ (row : Option ModeRow). CallFollows (after_call fonts r block c d) (screen_after_mode_set row mode fonts r b.screen) b) (sym h.is) fresh

-- the machine follows this screen, dot by dot
record Stands (fonts : FontSet) (m : Machine) (b : Drawing) : Type 0 where
  card : IsCard m.card
  bda : AreValidData m.bda
  same : m.fonts ≡ fonts
  follows : CardFollowsDrawing m.card m.bda b

call_follows : Laws → (call : Option Call) (fonts : FontSet) (r : Regs) (block : List ℕ) (m : Machine) (b : Drawing) → call_of r ≡ call →
    IsDotReportCall b (length block) call → AreRegistersWords r → AreBytes block → AreFonts fonts → Stands fonts m b
    → CallFollows (after_call fonts r block m.card m.bda) (call_on_screen call fonts r block b.screen) b
call_follows law None fonts r block m b e stays words bytes glyphs is =
    refused_follows _ BadFunction m.card m.bda b (law.screens.unknown fonts r block m.card m.bda b.screen is.follows.shows e) is.follows
call_follows law (Some (SetMode mode keeps)) fonts r block m b e (inl (clears, zeroth)) words bytes glyphs is =
    set_follows law mode keeps fonts r block m.card m.bda b clears e glyphs is.card (frame_shown m.card m.bda b.screen is.follows.shows) zeroth
    (law.starts m.card m.bda b is.follows zeroth)
call_follows law (Some (SetMode mode keeps)) fonts r block m b e (inr none) words bytes glyphs is =
    let left = refused_follows _ BadMode m.card m.bda b (law.screens.no_mode mode keeps fonts r block m.card m.bda e none) is.follows in
    subst (λ (row : Option ModeRow). CallFollows (after_call fonts r block m.card m.bda) (screen_after_mode_set row mode fonts r b.screen) b) (sym none) left
call_follows law (Some (ReadTable asked_for)) fonts r block m b e stays words bytes glyphs is = record {
  reply = (law.screens.table asked_for fonts r block m.card m.bda b.screen is.card is.follows.shows e).reply;
  follows = law.table asked_for fonts r block m.card m.bda b is.card is.follows e;
}
call_follows law (Some (LoadGlyphs load)) fonts r block m b e may words bytes glyphs is = record {
  reply = (law.screens.loaded load fonts r block m.card m.bda b.screen is.card bytes glyphs is.follows.shows e).reply;
  follows = law.loads load fonts r block m.card m.bda b is.card bytes glyphs is.follows may e;
}
call_follows law (Some (InMode asked_for)) fonts r block m b e stays words bytes glyphs is = record {
  reply = (law.screens.served asked_for fonts r block m.card m.bda b.screen is.card is.bda.words words bytes is.follows.shows e).reply;
  follows = law.served asked_for fonts r block m.card m.bda b is.card is.bda.words words bytes is.follows e;
}

-- ---- one step

-- a step answers as on the screen, and leads to the next one
record StepFollows (fonts : FontSet) (m : Machine) (b : Drawing) (step : Step) : Type 0 where
  answer : answer_to m step ≡ answer_on_drawing fonts b step
  stands : Stands fonts (after_step m step) (drawing_after fonts b step)

-- dots, or more than one step may take
advanced : Laws → (few : Bool) (fonts : FontSet) (m : Machine) (b : Drawing) (count : ℕ) → Stands fonts m b →
    (let w : WriteResult = (if few then (dots count m.card, Ok tt) else (m.card, Err TooFar)) in
    (Short (of_write w.1) ≡ Short (if few then Done else Refused TooFar)) × Stands fonts (record m { card = w.0 }) (if few then take_dots count b else b))
advanced law true fonts m b count is = (
  refl,
  record {
    card = law.screens.dots count m.card is.card;
    bda = is.bda;
    same = is.same;
    follows = law.dots_follow count m.card m.bda b is.card is.follows;
  },
)
advanced law false fonts m b count is = (refl, is)

step_follows : Laws → (fonts : FontSet) (m : Machine) (b : Drawing) (step : Step) → AreFonts fonts → IsInRange step → IsDotReportStep b step → Stands fonts m b →
    StepFollows fonts m b step
unfolding answer_to after_step answer_on_drawing drawing_after after_int10
step_follows law fonts m b (Int ax bx cx dx block) glyphs (ha, hb, hc, hd, (short, all)) stays is =
    let r = registers_of ax bx cx dx in
    let words : AreRegistersWords r = record { ax = omega arith; bx = omega arith; cx = omega arith; dx = omega arith } in
    let l = call_follows law (call_of r) fonts r block m b refl stays words (block_bytes block all) glyphs is in
    let here = subst (λ (f : FontSet). CallFollows (after_call f r block m.card m.bda) (call_on_screen (call_of r) fonts r block b.screen) b) (sym is.same) l in
    record {
      answer = ap of_service here.reply;
      stands = record {
        card = law.screens.card m.fonts m.bda r block m.card is.card;
        bda = law.screens.bda m.fonts m.bda r block m.card words.dx is.bda;
        same = is.same;
        follows = here.follows;
      };
    }
step_follows law fonts m b (Advance count) glyphs range stays is =
    let both = advanced law (nat_le count most_dots_of_an_advance) fonts m b count is in
    record { answer = both.0; stands = both.1 }
step_follows law fonts m b Frame glyphs range stays is =
    let f = law.frame_follows m.card m.bda b is.card is.follows in
    record {
      answer = ap (λ x. of_shape x (bytes_of_dots (frame m.card).drawn)) f.size ∙ ap (λ bytes.
          of_shape (Some (record { width = picture_width b.screen; height = picture_height b.screen })) bytes) f.bytes;
      stands = record { card = law.screens.dots (card_dots_to_frame_end m.card) m.card is.card; bda = is.bda; same = is.same; follows = f.follows };
    }
step_follows law fonts m b step glyphs range stays is = absurd stays

-- ---- all steps

reports_from : Laws → (fonts : FontSet) (m : Machine) (b : Drawing) (n : ℕ) (steps : List Step) → AreFonts fonts → AreInRange steps → AllDotReportSteps fonts b steps →
    Stands fonts m b
    → report_from m n steps ≡ dot_report_from fonts b n steps
reports_from law fonts m b n [] glyphs range all is = refl
reports_from law fonts m b n (step ∷ steps) glyphs range all is =
    let l = step_follows law fonts m b step glyphs range.0 all.0 is in
    ap (λ a. line n a ++ report_from (after_step m step) (n + 1) steps) l.answer
    ∙ ap (λ (rest : List ℕ). line n (answer_on_drawing fonts b step) ++ rest) (reports_from law fonts (after_step m step) (drawing_after fonts b step) (n + 1) steps
    glyphs range.1 all.1 l.stands)

-- the first step sets a mode
first_follows : Laws → (call : Option Call) (fonts : FontSet) (r : Regs) (block : List ℕ) → call_of r ≡ call → IsClearingModeSet call → AreFonts fonts
    → CallFollows (after_call fonts r block power_on_card power_on_data) (call_on_screen call fonts r block (power_on_drawing fonts).screen) (power_on_drawing fonts)
first_follows law None fonts r block e clears glyphs = absurd clears
first_follows law (Some (ReadTable asked_for)) fonts r block e clears glyphs = absurd clears
first_follows law (Some (LoadGlyphs load)) fonts r block e clears glyphs = absurd clears
first_follows law (Some (InMode asked_for)) fonts r block e clears glyphs = absurd clears
first_follows law (Some (SetMode mode keeps)) fonts r block e clears glyphs =
    set_follows law mode keeps fonts r block power_on_card power_on_data (power_on_drawing fonts) clears e glyphs law.screens.first_card refl refl
    (record { line = refl; character = refl; dot = refl })

pub reports_dots : Laws → (fonts : FontSet) (steps : List Step) → AreFonts fonts → AreInRange steps → AreDotReportSteps fonts steps →
    report_of fonts steps ≡ dot_report fonts steps
unfolding answer_to after_step answer_on_drawing drawing_after after_int10
reports_dots law fonts [] glyphs range all = absurd all
reports_dots law fonts (Int ax bx cx dx block ∷ steps) glyphs ((ha, hb, hc, hd, is_block), range) (clears, all) =
    let r = registers_of ax bx cx dx in
    let m = power_on_machine fonts in
    let b = power_on_drawing fonts in
    let step : Step = Int ax bx cx dx block in
    let f = first_follows law (call_of r) fonts r block refl clears glyphs in
    let stands : Stands fonts (after_step m step) (drawing_after fonts b step) = record {
      card = law.screens.card fonts power_on_data r block power_on_card law.screens.first_card;
      bda = law.screens.bda fonts power_on_data r block power_on_card (omega arith) law.screens.first_data;
      same = refl;
      follows = f.follows;
    } in
    ap (λ a. line 1 (of_service a) ++ report_from (after_step m step) 2 steps) f.reply
    ∙ ap (λ (rest : List ℕ). line 1 (answer_on_drawing fonts b step) ++ rest) (reports_from law fonts (after_step m step) (drawing_after fonts b step) 2 steps glyphs
    range all.1 stands)
reports_dots law fonts (step ∷ steps) glyphs range all = absurd all
