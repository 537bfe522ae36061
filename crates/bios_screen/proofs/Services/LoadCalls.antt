-- Calls that load glyphs: each is refused, or leads to the screen with these glyphs.
use Rattle.std.proofs.Common.{◌≡◌, ℕ, ◌+◌, ◌≤◌, refl, sym, ap, ◌∙◌, arith, List, length, Option, Some, None, Bool, true, false, if◌then◌else◌}
use Rattle.std.specs.Prelude.{◌==◌}
use Rattle.std.proofs.lemmas.Bool.Decides.{nat_tests}
use Rattle.bios_screen.proofs.Prelude.{Refusal, IsCard, card_meaning, CardState, ModeRow, mode_row_at_height, BiosData, data_of_mode, AreBytes, FontSet, Regs, Plan, Done}
use Rattle.bios_screen.proofs.Prelude.{run, ◌>>◌, is_text, Screen, shown}
use Rattle.vga_bits.specs.declared.refusal.Refusal.TheVariants.{NoMode, WrongKind, CountPast}
use Rattle.bios_modes.specs.declared.heights.TextRow.{TextRow}
use Rattle.bios_modes.specs.Heights.{fifty_rows_underlined_at, twenty_eight_rows_underlined_at, twenty_five_rows_underlined_at, text_row, with_height_row}
use Rattle.bios_modes.specs.Bounds.{AreFonts}
use Rattle.bios_services.specs.declared.glyph_load.GlyphLoad.{GlyphLoad}
use Rattle.bios_services.specs.declared.call.Call.{Call}
use Rattle.bios_services.specs.declared.call.Call.TheVariants.{LoadGlyphs}
use Rattle.bios_services.specs.Reasons.{◌or◌, refuse_unless}
use Rattle.bios_services.specs.GlyphLoads.{AreGlyphsThere, glyphs_block_len, glyphs_len, load_refusal_besides_block, load_refusal, load_plan}
use Rattle.bios_services.specs.Calls.{call_of}
use Rattle.bios_services.specs.Service.{CallOutcome, answer_of_registers, call_plan, refusal_plan, load_if_height_exists, load_unless_refused_plan, load_in_mode_plan}
use Rattle.bios_screen.specs.AfterCall.{after_call}
use Rattle.bios_screen.specs.Called.{reply_unless_refused, screen_unless_refused, GlyphCallLeadsToScreen}
use Rattle.bios_screen.specs.Loaded.{height_refusal_on, load_at_height, load_glyphs}
use Rattle.bios_screen.proofs.Base.Tests.{le_is}
use Rattle.bios_screen.proofs.Base.Reasons.{neither, holds, wrong_or}
use Rattle.bios_screen.proofs.Base.Plans.{then_runs, then_answers}
use Rattle.bios_services.proofs.CardLemmas.{plan_beam}
use Rattle.bios_screen.proofs.Modes.TextModes.{Display, Height, mode_row_of_display, row_with, lines_of, number_of}
use Rattle.bios_screen.proofs.Modes.TextModes.Display.{Colour, Monochrome}
use Rattle.bios_screen.proofs.Modes.TextModes.Height.{Eight, Fourteen, Sixteen}
use Rattle.bios_screen.proofs.Shows.Screens.{screen_shown, shown_is, mode_of_shown}
use Rattle.bios_screen.proofs.Text.Loads.{load_shown}
use Rattle.bios_screen.proofs.Services.Calls.{Leads}

-- ---- the text-height row of a height

-- a row of the text-height table belongs to one of the heights, and the height is at most 16
record HasLines (disp : Display) (height : ℕ) (text : TextRow) : Type 0 where
  new : Height
  is : text ≡ lines_of disp new
  few : height ≤ 16

some_text : {A : Type 0} (a b : TextRow) → ((a ≡ b) → A) → (let x : Option TextRow = Some a in x) ≡ Some b → A
some_text a b f e = f (cc)

lines_are : (disp : Display) (height : ℕ) (text : TextRow) → text_row (number_of disp) height ≡ Some text → HasLines disp height text
lines_are disp height text e = by_display disp e
  where
    by_tests : (k : Display) (a b f : Bool) (u8 u14 u16 : ℕ) → (height == 8) ≡ a → (height == 14) ≡ b → (height == 16) ≡ f → fifty_rows_underlined_at u8 ≡ lines_of k Eight →
        twenty_eight_rows_underlined_at u14 ≡ lines_of k Fourteen → twenty_five_rows_underlined_at u16 ≡ lines_of k Sixteen
        → (let x : Option TextRow = (if a then Some (fifty_rows_underlined_at u8) else if b then Some (twenty_eight_rows_underlined_at u14) else if f then Some (twenty_five_rows_underlined_at u16)
        else None) in x) ≡ Some text → HasLines k height text
    by_tests k true b f u8 u14 u16 ea eb ef e8 e14 e16 h = some_text (fifty_rows_underlined_at u8) text (λ q.
        record { new = Eight; is = sym q ∙ e8; few = grind (arith, nat_tests) }) h
    by_tests k false true f u8 u14 u16 ea eb ef e8 e14 e16 h = some_text (twenty_eight_rows_underlined_at u14) text (λ q.
        record { new = Fourteen; is = sym q ∙ e14; few = grind (arith, nat_tests) }) h
    by_tests k false false true u8 u14 u16 ea eb ef e8 e14 e16 h = some_text (twenty_five_rows_underlined_at u16) text (λ q.
        record { new = Sixteen; is = sym q ∙ e16; few = grind (arith, nat_tests) }) h
    by_tests k false false false u8 u14 u16 ea eb ef e8 e14 e16 h = absurd (cc)

    by_display : (k : Display) → text_row (number_of k) height ≡ Some text → HasLines k height text
    by_display Colour h = by_tests Colour (height == 8) (height == 14) (height == 16) 0x1F 0x1F 0x1F refl refl refl refl refl refl h
    by_display Monochrome h = by_tests Monochrome (height == 8) (height == 14) (height == 16) 0x07 0x0D 0x0F refl refl refl refl refl refl h

-- the mode's row at a height takes its lines from the text-height table
rows_agree : (disp : Display) (height : ℕ) → mode_row_at_height (number_of disp) height ≡ with_height_row (mode_row_of_display disp) (text_row (number_of disp) height)
rows_agree Colour height = refl
rows_agree Monochrome height = refl

-- ---- why a load is refused

-- a load that is not refused: the mode is text, no character is above FF, and a block has exactly
-- the length of its glyphs
record IsAllowed (load : GlyphLoad) (mode len : ℕ) : Type 0 where
  text : is_text mode ≡ true
  last : load.first + load.count ≤ 256
  whole : load.is_block ≡ true → len ≡ glyphs_len load

allowed_of : (load : GlyphLoad) (mode len : ℕ) → load_refusal load mode len ≡ None → IsAllowed load mode len
allowed_of load mode len e =
    let block = wrong_or (load_refusal_besides_block load mode) (glyphs_block_len load) len e in
    let reason = neither (refuse_unless (is_text mode) WrongKind) _ block.0 in
    record {
      text = holds (is_text mode) WrongKind reason.0;
      last = le_is (load.first + load.count) 256 (holds _ CountPast reason.1);
      whole = λ z. block.1 (glyphs_len load) (ap (λ (b : Bool). let x : Option ℕ = (if b then Some (glyphs_len load) else None) in x) z);
    }

-- ---- the call

refused_leads : (why : Refusal) (r : Regs) (s new : Screen) (c : CardState) (d : BiosData) → shown c d ≡ Some s →
    Leads (Some why) r s new (run card_meaning (refusal_plan why d) c)
refused_leads why r s new c d e = record { reply = refl; shows = e }

module _ (fonts : FontSet) (load : GlyphLoad) (r : Regs) (block : List ℕ) (bytes : AreBytes block) (are : AreFonts fonts) (c : CardState)
    (d : BiosData) (s : Screen) (z : IsCard c) (old : shown c d ≡ Some s) where
  abbrev new : Screen
  new = load_glyphs fonts s load block

  -- an allowed load leads to the screen with the glyphs, if their height has a row
  row_leads : (a : IsAllowed load d.mode (length block)) (text : TextRow) → text_row d.mode load.height ≡ Some text →
      Leads None r s (load_at_height (Some text) fonts s load block) (run card_meaning (load_if_height_exists (mode_row_at_height d.mode load.height) load fonts d r block) c)
  unfolding load_if_height_exists
  row_leads a text e =
      let x = shown_is c d s a.text old in
      let h = x.is in
      let disp = h.display in
      let there_is : text_row (number_of disp) load.height ≡ Some text = ap (λ m. text_row m load.height) (sym h.number) ∙ e in
      let lines = lines_are disp load.height text there_is in
      let row = row_with disp lines.new in
      let at : mode_row_at_height d.mode load.height ≡ Some row = ap (λ m. mode_row_at_height m load.height) h.number ∙ rows_agree disp load.height
      ∙ ap (with_height_row (mode_row_of_display disp)) there_is ∙ ap (λ (t : TextRow). with_height_row (mode_row_of_display disp) (Some t)) lines.is in
      let there : AreGlyphsThere load (length block) = record { height = lines.few; last = a.last; whole = a.whole } in
      let plan = load_plan fonts load block row in
      let done : Plan CallOutcome = Done (answer_of_registers r (data_of_mode d.mode row)) in
      let runs : run card_meaning (load_if_height_exists (mode_row_at_height d.mode load.height) load fonts d r block) c ≡ run card_meaning (plan >> done) c =
      ap (λ q. run card_meaning (load_if_height_exists q load fonts d r block) c) at in
      record {
        reply = ap (λ y. y.1.0) runs ∙ ap (λ (y : CallOutcome). y.0) (then_answers plan done c);
        shows = ap (λ y. shown y.0 y.1.1) runs
            ∙ ap (λ y. shown y (run card_meaning (plan >> done) c).1.1) (then_runs plan done c)
            ∙ ap (λ (y : CallOutcome). shown (run card_meaning plan c).0 y.1) (then_answers plan done c)
            ∙ load_shown fonts load block bytes are there c d h z lines.new
            ∙ ap (λ t. Some (load_at_height (Some t) fonts (screen_shown c d h) load block)) (sym lines.is)
            ∙ ap (λ q. Some (load_at_height (Some text) fonts q load block)) x.screen;
      }

  -- if the height has no row, the call is refused
  height_leads : (a : IsAllowed load d.mode (length block)) (q : Option TextRow) → text_row d.mode load.height ≡ q →
      Leads (height_refusal_on q) r s (load_at_height q fonts s load block) (run card_meaning (load_if_height_exists (mode_row_at_height d.mode load.height) load fonts d r block) c)
  unfolding load_if_height_exists
  height_leads a (Some text) e = row_leads a text e
  height_leads a None e =
      let x = shown_is c d s a.text old in
      let h = x.is in
      let at : mode_row_at_height d.mode load.height ≡ None = ap (λ m. mode_row_at_height m load.height) h.number ∙ rows_agree h.display load.height
      ∙ ap (with_height_row (mode_row_of_display h.display)) (ap (λ m. text_row m load.height) (sym h.number) ∙ e) in
      let runs = ap (λ (q : Option ModeRow). run card_meaning (load_if_height_exists q load fonts d r block) c) at in
      record { reply = ap (λ y. y.1.0) runs; shows = ap (λ y. shown y.0 y.1.1) runs ∙ old }

  unless_leads : (why : Option Refusal) → load_refusal load d.mode (length block) ≡ why →
      Leads (why or height_refusal_on (text_row d.mode load.height)) r s (load_at_height (text_row d.mode load.height) fonts s load block)
      (run card_meaning (load_unless_refused_plan why load fonts d r block) c)
  unfolding load_unless_refused_plan
  unless_leads (Some why) e = refused_leads why r s _ c d old
  unless_leads None e = height_leads (allowed_of load d.mode (length block) e) (text_row d.mode load.height) refl

  pub load_leads : call_of r ≡ Some (LoadGlyphs load) → GlyphCallLeadsToScreen load fonts r block c d s
  unfolding load_in_mode_plan load_glyphs
  load_leads e =
      let why = load_refusal load d.mode (length block) in
      let plan = load_unless_refused_plan why load fonts d r block in
      let mode = mode_of_shown c d s old in
      let runs : after_call fonts r block c d ≡ run card_meaning plan c =
      ap (λ (q : Option Call). run card_meaning (call_plan q fonts d r block) c) e
      ∙ ap (λ b. run card_meaning (if b then refusal_plan NoMode d else plan) c) mode.set in
      let t = unless_leads why refl in
      let same = sym mode.is in
      record {
        reply = ap (λ y. y.1.0) runs ∙ t.reply ∙ ap (λ m. reply_unless_refused (load_refusal load m (length block) or height_refusal_on (text_row m load.height)) r)
            same;
        shows = ap (λ y. shown y.0 y.1.1) runs ∙ t.shows ∙ ap (λ m. Some (screen_unless_refused (load_refusal load m (length block)
            or height_refusal_on (text_row m load.height)) s (load_at_height (text_row m load.height) fonts s load block))) same;
        beam = ap (λ y. y.0.crtc.beam) runs ∙ plan_beam plan c;
      }
