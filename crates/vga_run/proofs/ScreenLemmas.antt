-- Why the report of services and whole frames is the plain screen's.
use Rattle.std.proofs.Common.{◌≡◌, ◌≢◌, ◌∙◌, inl, inr, ℕ, zero, suc, ◌+◌, ◌^◌, ◌<◌, Bool, true, false, List, [], ◌∷◌, ◌++◌, take, drop, Option, Some}
use Rattle.std.proofs.Common.{None, Result, Err, if◌then◌else◌, arith, refl, sym, ap, subst}
use Rattle.std.specs.Prelude.{slice_index}
use Rattle.std.specs.List.{AllByRecursion}
use Rattle.std.proofs.lemmas.List.{get_or-drop}
use Rattle.vga_bits.specs.declared.refusal.Refusal.{Refusal}
use Rattle.vga_bits.specs.declared.refusal.Refusal.TheVariants.{BadFunction, BadMode}
use Rattle.vga_crtc.specs.Raster.{IsFrameStart}
use Rattle.vga_card.specs.Bounds.{IsCard}
use Rattle.vga_card.specs.Bus.{card_meaning}
use Rattle.vga_card.specs.Card.{CardState, power_on_card}
use Rattle.vga_card.specs.Dots.{dots}
use Rattle.vga_card.specs.Frames.{frame, card_dots_to_frame_end}
use Rattle.vga_card.specs.Picture.{bytes_of_dots}
use Rattle.bios_modes.specs.declared.modes.ModeRow.{ModeRow}
use Rattle.bios_modes.specs.Heights.{mode_row_at_height}
use Rattle.bios_modes.specs.Modes.{mode_row}
use Rattle.bios_modes.specs.Bda.{BiosData, power_on_data}
use Rattle.bios_modes.specs.Bounds.{IsBda, AreBytes, AreFonts}
use Rattle.bios_modes.specs.Fonts.{FontSet, font_len, fonts_of}
use Rattle.bios_services.specs.declared.regs.Regs.{Regs}
use Rattle.bios_services.specs.declared.reply.Reply.{Reply}
use Rattle.bios_services.specs.declared.tables.TableService.{TableService}
use Rattle.bios_services.specs.declared.glyph_load.GlyphLoad.{GlyphLoad}
use Rattle.bios_services.specs.declared.call.Call.{Call}
use Rattle.bios_services.specs.declared.call.Call.TheVariants.{SetMode, ReadTable, LoadGlyphs, InMode}
use Rattle.bios_services.specs.declared.call.Service.{Service}
use Rattle.bios_services.specs.Calls.{call_of}
use Rattle.bios_modes.specs.Kinds.{is_text}
use Rattle.bios_services.specs.Data.{AreValidData}
use Rattle.bios_services.specs.Plan.{run}
use Rattle.bios_services.specs.Service.{CallOutcome, service}
use Rattle.bios_screen.specs.Screen.{Screen}
use Rattle.bios_screen.specs.Shown.{shown, screen_shown_in_mode, shows, screen_of}
use Rattle.bios_screen.specs.AfterCall.{ModeSetShowsFreshScreen, after_call}
use Rattle.bios_screen.specs.Called.{AreRegistersWords, ServiceCallLeadsToScreen, GlyphCallLeadsToScreen, TableCallLeavesScreen}
use Rattle.bios_screen.specs.Framed.{FrameDrawsScreen}
use Rattle.bios_screen.specs.Fresh.{fresh_screen}
use Rattle.bios_screen.specs.Picture.{picture_width, picture_height}
use Rattle.vga_script.specs.declared.step.Step.{Step}
use Rattle.vga_script.specs.declared.step.Step.TheVariants.{Int, Frame}
use Rattle.vga_script.specs.Step.{IsInRange, AreInRange}
use Rattle.vga_run.specs.declared.machine.Machine.{Machine}
use Rattle.vga_run.specs.Machine.{power_on_machine}
use Rattle.vga_run.specs.Answer.{Served, of_service, of_shape}
use Rattle.vga_run.specs.Step.{answer_to, after_step, after_int10}
use Rattle.vga_run.specs.Report.{line, report_from, report_of}
use Rattle.vga_run.specs.ScreenReport.{IsClearingModeSet, IsScreenReportCall, registers_of, IsScreenReportStep, AreScreenReportSteps, screen_after_mode_set, call_on_screen, answer_on_screen, screen_after}
use Rattle.vga_run.specs.ScreenReport.{screen_report_from, mode_set_report, report_that_begins_with_call, screen_report}

-- the laws of the crates below
pub record Laws : Type 0 where
  pub first_card : IsCard power_on_card
  pub first_data : AreValidData power_on_data
  pub dots : (n : ℕ) (c : CardState) → IsCard c → IsCard (dots n c)
  pub card : (fonts : FontSet) (d : BiosData) (r : Regs) (block : List ℕ) (c : CardState) → IsCard c → IsCard (run card_meaning (service fonts d r block) c).0
  pub bda : (fonts : FontSet) (d : BiosData) (r : Regs) (block : List ℕ) (c : CardState) → r.dx < 65536 → AreValidData d →
      AreValidData (run card_meaning (service fonts d r block) c).1.1
  pub served : (asked_for : Service) (fonts : FontSet) (r : Regs) (block : List ℕ) (c : CardState) (d : BiosData) (s : Screen)
      → IsCard c → IsBda d → AreRegistersWords r → AreBytes block → shown c d ≡ Some s → call_of r ≡ Some (InMode asked_for) → ServiceCallLeadsToScreen asked_for fonts r block c d s
  pub table : (asked_for : TableService) (fonts : FontSet) (r : Regs) (block : List ℕ) (c : CardState) (d : BiosData) (s : Screen)
      → IsCard c → shown c d ≡ Some s → call_of r ≡ Some (ReadTable asked_for) → TableCallLeavesScreen asked_for fonts r block c d s
  pub loaded : (load : GlyphLoad) (fonts : FontSet) (r : Regs) (block : List ℕ) (c : CardState) (d : BiosData) (s : Screen)
      → IsCard c → AreBytes block → AreFonts fonts → shown c d ≡ Some s → call_of r ≡ Some (LoadGlyphs load) → GlyphCallLeadsToScreen load fonts r block c d s
  pub unknown : (fonts : FontSet) (r : Regs) (block : List ℕ) (c : CardState) (d : BiosData) (s : Screen) → shown c d ≡ Some s → call_of r ≡ None →
      after_call fonts r block c d ≡ (c, (Err BadFunction, d))
  pub no_mode : (mode : ℕ) (keeps : Bool) (fonts : FontSet) (r : Regs) (block : List ℕ) (c : CardState) (d : BiosData)
      → call_of r ≡ Some (SetMode mode keeps) → mode_row mode ≡ None → after_call fonts r block c d ≡ (c, (Err BadMode, d))
  pub fresh : (mode : ℕ) (row : ModeRow) → mode_row mode ≡ Some row → ModeSetShowsFreshScreen mode row
  pub framed : (c : CardState) (d : BiosData) (s : Screen) → IsCard c → shown c d ≡ Some s → IsFrameStart c.crtc.beam → FrameDrawsScreen c d s

-- ---- modes

-- a mode of the table, with its row
pub record HasRow (mode : ℕ) : Type 0 where
  pub row : ModeRow
  pub is : mode_row mode ≡ Some row
  pub fresh : ModeSetShowsFreshScreen mode row

pub row_of_mode : Laws → (mode : ℕ) → mode_row mode ≢ None → HasRow mode
row_of_mode law mode there = by_row (mode_row mode) refl there
  where
    by_row : (x : Option ModeRow) → mode_row mode ≡ x → x ≢ None → HasRow mode
    by_row None e some = absurd (some refl)
    by_row (Some row) e some = record { row = row; is = e; fresh = law.fresh mode row e }

-- ---- numbers

-- a block has bytes
pub block_bytes : (block : List ℕ) → AllByRecursion (λ byte. byte < 2 ^ 8) block → AreBytes block
block_bytes [] all i = omega arith
block_bytes (byte ∷ block) all zero = let l = all.0 in omega arith
block_bytes (byte ∷ block) all (suc i) = block_bytes block all.1 i

-- the glyphs of a font file do
taken_bytes : (n : ℕ) (file : List ℕ) → AreBytes file → AreBytes (take n file)
taken_bytes n file bytes i = is_taken n file i bytes
  where
    is_taken : (n : ℕ) (l : List ℕ) (i : ℕ) → AreBytes l → slice_index (take n l) i < 256
    is_taken zero l i b = omega arith
    is_taken (suc n) [] i b = omega arith
    is_taken (suc n) (x ∷ xs) zero b = b 0
    is_taken (suc n) (x ∷ xs) (suc i) b = is_taken n xs i (λ k. b (suc k))

dropped_bytes : (n : ℕ) (file : List ℕ) → AreBytes file → AreBytes (drop n file)
dropped_bytes n file bytes i = subst (λ (k : ℕ). k < 256) (sym (get_or-drop n file i 0)) (bytes (n + i))

pub glyph_bytes : (file : List ℕ) → AreBytes file → AreFonts (fonts_of file)
unfolding fonts_of
glyph_bytes file bytes =
    let behind = dropped_bytes (font_len 8) file bytes in
    record {
      f8 = taken_bytes (font_len 8) file bytes;
      f14 = taken_bytes (font_len 14) (drop (font_len 8) file) behind;
      f16 = dropped_bytes (font_len 14) (drop (font_len 8) file) behind;
    }

-- ---- one step

-- the machine shows this screen at the first dot of a frame
record Stands (fonts : FontSet) (m : Machine) (s : Screen) : Type 0 where
  card : IsCard m.card
  bda : AreValidData m.bda
  same : m.fonts ≡ fonts
  shows : shown m.card m.bda ≡ Some s
  start : IsFrameStart m.card.crtc.beam

-- the number of its frame is the beam's
pub frame_shown : (c : CardState) (d : BiosData) (s : Screen) → shown c d ≡ Some s → s.frame ≡ c.crtc.beam.frame
frame_shown c d s e = by_row (mode_row_at_height d.mode d.height) e
  where
    of_screen : (row : ModeRow) → (screen_of row c d).frame ≡ c.crtc.beam.frame
    of_screen row = by_kind (is_text d.mode) refl
      where
        by_kind : (b : Bool) → is_text d.mode ≡ b → (screen_of row c d).frame ≡ c.crtc.beam.frame
        by_kind true e = cc
        by_kind false e = cc

    by_test : (row : ModeRow) (b : Bool) → (let x : Option Screen = (if b then Some (screen_of row c d) else None) in x) ≡ Some s → s.frame ≡ c.crtc.beam.frame
    by_test row true h = let same : screen_of row c d ≡ s = cc in sym (ap (λ (x : Screen). x.frame) same) ∙ of_screen row
    by_test row false h = absurd (cc)

    by_row : (x : Option ModeRow) → screen_shown_in_mode x c d ≡ Some s → s.frame ≡ c.crtc.beam.frame
    by_row None h = absurd (cc)
    by_row (Some row) h = by_test row (shows row c d) h

-- what a call answers, leaves on the screen, and leaves of the beam
record CallLeads (x : CardState × CallOutcome) (to : Screen × Result Reply Refusal) (c : CardState) : Type 0 where
  reply : x.1.0 ≡ to.1
  shows : shown x.0 x.1.1 ≡ Some to.0
  beam : x.0.crtc.beam ≡ c.crtc.beam

-- a call that is refused and does nothing
refused_leads : (x : CardState × CallOutcome) (why : Refusal) (c : CardState) (d : BiosData) (s : Screen) → x ≡ (c, (Err why, d)) → shown c d ≡ Some s →
    CallLeads x (s, Err why) c
refused_leads x why c d s e shows = record {
  reply = ap (λ (y : CardState × CallOutcome). y.1.0) e;
  shows = ap (λ (y : CardState × CallOutcome). shown y.0 y.1.1) e ∙ shows;
  beam = ap (λ (y : CardState × CallOutcome). y.0.crtc.beam) e;
}

-- a mode set that clears the memory
set_leads : Laws → (mode : ℕ) (keeps : Bool) (fonts : FontSet) (r : Regs) (block : List ℕ) (c : CardState) (d : BiosData) (s : Screen)
    → IsClearingModeSet (Some (SetMode mode keeps)) → call_of r ≡ Some (SetMode mode keeps) → AreFonts fonts → IsCard c → s.frame ≡ c.crtc.beam.frame →
    CallLeads (after_call fonts r block c d) (screen_after_mode_set (mode_row mode) mode fonts r s) c
set_leads law mode keeps fonts r block c d s (has, clears) e glyphs z number =
    let h = row_of_mode law mode has in
    let f = h.fresh fonts r block c d z glyphs.f16 (e ∙ ap (λ (k : Bool). let call : Option Call = Some (SetMode mode k) in call) clears) in
    let fresh : CallLeads (after_call fonts r block c d) (screen_after_mode_set (Some h.row) mode fonts r s) c = record {
      reply = f.answer;
      shows = f.shows ∙ ap (λ (n : ℕ). Some (fresh_screen mode h.row fonts.f16 n)) (sym number);
      beam = f.beam;
    } in
    subst (λ (row : Option ModeRow). CallLeads (after_call fonts r block c d) (screen_after_mode_set row mode fonts r s) c) (sym h.is) fresh

call_leads : Laws → (call : Option Call) (fonts : FontSet) (r : Regs) (block : List ℕ) (m : Machine) (s : Screen) → call_of r ≡ call → IsScreenReportCall call →
    AreRegistersWords r → AreBytes block → AreFonts fonts → Stands fonts m s
    → CallLeads (after_call fonts r block m.card m.bda) (call_on_screen call fonts r block s) m.card
call_leads law None fonts r block m s e stays words bytes glyphs is = refused_leads _ BadFunction m.card m.bda s
    (law.unknown fonts r block m.card m.bda s is.shows e) is.shows
call_leads law (Some (SetMode mode keeps)) fonts r block m s e (inl clears) words bytes glyphs is =
    set_leads law mode keeps fonts r block m.card m.bda s clears e glyphs is.card (frame_shown m.card m.bda s is.shows)
call_leads law (Some (SetMode mode keeps)) fonts r block m s e (inr none) words bytes glyphs is =
    let left = refused_leads _ BadMode m.card m.bda s (law.no_mode mode keeps fonts r block m.card m.bda e none) is.shows in
    subst (λ (row : Option ModeRow). CallLeads (after_call fonts r block m.card m.bda) (screen_after_mode_set row mode fonts r s) m.card) (sym none) left
call_leads law (Some (ReadTable asked_for)) fonts r block m s e stays words bytes glyphs is =
    let k = law.table asked_for fonts r block m.card m.bda s is.card is.shows e in
    record { reply = k.reply; shows = k.shows; beam = k.beam }
call_leads law (Some (LoadGlyphs load)) fonts r block m s e stays words bytes glyphs is =
    let k = law.loaded load fonts r block m.card m.bda s is.card bytes glyphs is.shows e in
    record { reply = k.reply; shows = k.shows; beam = k.beam }
call_leads law (Some (InMode asked_for)) fonts r block m s e stays words bytes glyphs is =
    let k = law.served asked_for fonts r block m.card m.bda s is.card is.bda.words words bytes is.shows e in
    record { reply = k.reply; shows = k.shows; beam = k.beam }

-- a step answers as on the screen, and leads to the next one
record StepLeads (fonts : FontSet) (m : Machine) (s : Screen) (step : Step) : Type 0 where
  answer : answer_to m step ≡ answer_on_screen fonts s step
  stands : Stands fonts (after_step m step) (screen_after fonts s step)

-- a call leaves the machine within its bounds
call_stands : Laws → (fonts : FontSet) (ax bx cx dx : ℕ) (block : List ℕ) (m : Machine) (s : Screen) → dx < 65536 → IsCard m.card → AreValidData m.bda →
    m.fonts ≡ fonts → IsFrameStart m.card.crtc.beam
    → (let x = after_call m.fonts (registers_of ax bx cx dx) block m.card m.bda in shown x.0 x.1.1) ≡ Some s →
    (after_call m.fonts (registers_of ax bx cx dx) block m.card m.bda).0.crtc.beam ≡ m.card.crtc.beam
    → Stands fonts (after_step m (Int ax bx cx dx block)) s
unfolding after_step after_int10
call_stands law fonts ax bx cx dx block m s small z a same start shows beam = record {
  card = law.card m.fonts m.bda (registers_of ax bx cx dx) block m.card z;
  bda = law.bda m.fonts m.bda (registers_of ax bx cx dx) block m.card small a;
  same = same;
  shows = shows;
  start = subst IsFrameStart (sym beam) start;
}

-- and so does a frame
frame_stands : Laws → (fonts : FontSet) (m : Machine) (s : Screen) → Stands fonts m s → FrameDrawsScreen m.card m.bda s →
    Stands fonts (after_step m Frame) (screen_after fonts s Frame)
unfolding after_step screen_after
frame_stands law fonts m s is f = record { card = law.dots (card_dots_to_frame_end m.card) m.card is.card; bda = is.bda; same = is.same; shows = f.next; start = f.start }

step_leads : Laws → (fonts : FontSet) (m : Machine) (s : Screen) (step : Step) → AreFonts fonts → IsInRange step → IsScreenReportStep step → Stands fonts m s →
    StepLeads fonts m s step
unfolding answer_to answer_on_screen screen_after after_int10
step_leads law fonts m s (Int ax bx cx dx block) glyphs (ha, hb, hc, hd, (short, all)) stays is =
    let r = registers_of ax bx cx dx in
    let words : AreRegistersWords r = record { ax = omega arith; bx = omega arith; cx = omega arith; dx = omega arith } in
    let l = call_leads law (call_of r) fonts r block m s refl stays words (block_bytes block all) glyphs is in
    let here = subst (λ (f : FontSet). CallLeads (after_call f r block m.card m.bda) (call_on_screen (call_of r) fonts r block s) m.card) (sym is.same) l in
    record {
      answer = ap of_service here.reply;
      stands = call_stands law fonts ax bx cx dx block m (call_on_screen (call_of r) fonts r block s).0 words.dx is.card is.bda is.same is.start here.shows
          here.beam;
    }
step_leads law fonts m s Frame glyphs range stays is =
    let f = law.framed m.card m.bda s is.card is.shows is.start in record {
      answer = ap (λ x. of_shape x (bytes_of_dots (frame m.card).drawn)) f.size ∙ ap (λ bytes.
          of_shape (Some (record { width = picture_width s; height = picture_height s })) bytes) f.colours;
      stands = frame_stands law fonts m s is f;
    }
step_leads law fonts m s step glyphs range stays is = absurd stays

-- ---- all steps

reports_from : Laws → (fonts : FontSet) (m : Machine) (s : Screen) (n : ℕ) (steps : List Step) → AreFonts fonts → AreInRange steps →
    AllByRecursion IsScreenReportStep steps → Stands fonts m s
    → report_from m n steps ≡ screen_report_from fonts s n steps
reports_from law fonts m s n [] glyphs range all is = refl
reports_from law fonts m s n (step ∷ steps) glyphs range all is =
    let l = step_leads law fonts m s step glyphs range.0 all.0 is in
    ap (λ a. line n a ++ report_from (after_step m step) (n + 1) steps) l.answer
    ∙ ap (λ (rest : List ℕ). line n (answer_on_screen fonts s step) ++ rest) (reports_from law fonts (after_step m step) (screen_after fonts s step) (n + 1) steps
    glyphs range.1 all.1 l.stands)

-- a step that is to set a mode does, and the others go on from the fresh screen
first_reports : Laws → (call : Option Call) (fonts : FontSet) (ax bx cx dx : ℕ) (block : List ℕ) (steps : List Step) →
    call_of (registers_of ax bx cx dx) ≡ call → IsClearingModeSet call → dx < 65536 → AreFonts fonts
    → AreInRange steps → AllByRecursion IsScreenReportStep steps → report_of fonts (Int ax bx cx dx block ∷ steps)
    ≡ report_that_begins_with_call call fonts (registers_of ax bx cx dx) steps
unfolding answer_to after_int10
first_reports law None fonts ax bx cx dx block steps e clears small glyphs range all = absurd clears
first_reports law (Some (ReadTable asked_for)) fonts ax bx cx dx block steps e clears small glyphs range all = absurd clears
first_reports law (Some (LoadGlyphs load)) fonts ax bx cx dx block steps e clears small glyphs range all = absurd clears
first_reports law (Some (InMode asked_for)) fonts ax bx cx dx block steps e clears small glyphs range all = absurd clears
first_reports law (Some (SetMode mode keeps)) fonts ax bx cx dx block steps e (has, clears) small glyphs range all =
    let r = registers_of ax bx cx dx in
    let m = power_on_machine fonts in
    let step : Step = Int ax bx cx dx block in
    let h = row_of_mode law mode has in
    let f = h.fresh fonts r block power_on_card power_on_data law.first_card glyphs.f16 (e
    ∙ ap (λ (k : Bool). let call : Option Call = Some (SetMode mode k) in call) clears) in
    let s = fresh_screen mode h.row fonts.f16 0 in
    let is = call_stands law fonts ax bx cx dx block m s small law.first_card law.first_data refl (record { line = refl; character = refl; dot = refl }) f.shows
    f.beam in
    ap (λ a. line 1 (of_service a) ++ report_from (after_step m step) 2 steps) f.answer
    ∙ ap (λ (rest : List ℕ). line 1 (Served r []) ++ rest) (reports_from law fonts (after_step m step) s 2 steps glyphs range all is)
    ∙ sym (ap (λ (row : Option ModeRow). mode_set_report row mode fonts r steps) h.is)

pub reports_screens : Laws → (fonts : FontSet) (steps : List Step) → AreFonts fonts → AreInRange steps → AreScreenReportSteps steps →
    report_of fonts steps ≡ screen_report fonts steps
reports_screens law fonts [] glyphs range all = absurd all
reports_screens law fonts (Int ax bx cx dx block ∷ steps) glyphs ((ha, hb, hc, hd, is_block), range) (clears, all) =
    first_reports law (call_of (registers_of ax bx cx dx)) fonts ax bx cx dx block steps refl clears (omega arith) glyphs range all
reports_screens law fonts (step ∷ steps) glyphs range all = absurd all
