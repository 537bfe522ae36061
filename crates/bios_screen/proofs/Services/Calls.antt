-- Whole calls: each performs the service that the registers ask for.
use Rattle.std.proofs.Common.{◌≡◌, ℕ, ◌<◌, refl, ap, ◌∙◌, subst, arith, List, length, Option, Some, None, Bool, true, false, Err}
use Rattle.std.specs.Prelude.{◌==◌, ◌&&◌, nat_lt, if◌then◌else◌, IfSome}
use Rattle.bios_screen.proofs.Prelude.{Refusal, IsCard, card_meaning, CardState, BiosData, FontSet, Regs, Plan, run, Done, ServiceOutcome, Screen, shown, ServiceActsAsOnScreen}
use Rattle.bios_screen.proofs.Prelude.{AreBytes}
use Rattle.vga_bits.specs.declared.refusal.Refusal.TheVariants.{NoMode, BadFunction, BadMode}
use Rattle.bios_modes.specs.Modes.{mode_row}
use Rattle.bios_services.specs.declared.call.Call.{Call}
use Rattle.bios_services.specs.declared.call.Call.TheVariants.{SetMode, InMode}
use Rattle.bios_services.specs.declared.call.Service.{Service}
use Rattle.bios_services.specs.declared.call.Service.TheVariants.{ReadDisplay}
use Rattle.bios_services.specs.declared.colours.ColourService.TheVariants.{SetRegister, SetOverscan, SetPalette, SetBlinking, ReadRegister, ReadOverscan}
use Rattle.bios_services.specs.declared.colours.ColourService.TheVariants.{SetEntry, SetEntries, ReadEntry, SetMask, ReadMask}
use Rattle.bios_services.specs.Registers.{high, low}
use Rattle.bios_services.specs.CellRuns.{cell_run_of}
use Rattle.bios_services.specs.Strings.{string_of}
use Rattle.bios_services.specs.declared.glyph_load.GlyphLoad.{GlyphLoad}
use Rattle.bios_services.specs.GlyphLoads.{glyph_load_of}
use Rattle.bios_services.specs.Calls.{scroll_of, colours_call, colour_call_of, service_of, call_in_mode, call_of, glyph_load_or}
use Rattle.bios_services.specs.Refusals.{service_with_page_or_0_if_only_one, refusal_in_mode}
use Rattle.bios_services.specs.Service.{plan_of_service, set_mode_plan, CallOutcome, answer_of_registers, refusal_plan, unless_refused_plan, service_in_mode_plan, call_plan}
use Rattle.bios_modes.specs.Bounds.{IsBda}
use Rattle.bios_screen.specs.Step.{refusal_on, next, answer_on}
use Rattle.bios_screen.specs.AfterCall.{ServiceLeadsToNextScreen, after_call, card_after_service}
use Rattle.bios_screen.specs.Called.{AreRegistersWords, reply_unless_refused, screen_unless_refused, ServiceCallLeadsToScreen}
use Rattle.bios_screen.proofs.Base.Plans.{run_bind}
use Rattle.bios_services.proofs.CardLemmas.{plan_beam}
use Rattle.bios_screen.proofs.Shows.Screens.{mode_of_shown}
use Rattle.bios_screen.proofs.Services.All as served

-- ---- every service that registers can ask for is served

choose : (b : Bool) (x y : Option Service) → IfSome x ServiceLeadsToNextScreen → IfSome y ServiceLeadsToNextScreen → IfSome (if b then x else y) ServiceLeadsToNextScreen
choose true x y f g = f
choose false x y f g = g

high_small : (n : ℕ) → n < 65536 → high n < 256
high_small n l = omega arith

low_small : (n : ℕ) → low n < 256
low_small n = omega arith

asked_is_served : (r : Regs) → AreRegistersWords r → IfSome (service_of r) ServiceLeadsToNextScreen
asked_is_served r w =
    choose (high r.ax == 0x01) _ _ (served.set_cursor_type r.cx)
    (choose (high r.ax == 0x02) _ _ (served.set_cursor (high r.bx) r.dx w.dx)
    (choose (high r.ax == 0x03) _ _ (served.read_cursor (high r.bx))
    (choose (high r.ax == 0x05) _ _ (served.select_page (low r.ax))
    (choose (high r.ax == 0x06) _ _ (served.scroll_up (scroll_of r) (high_small r.bx w.bx))
    (choose (high r.ax == 0x07) _ _ (served.scroll_down (scroll_of r) (high_small r.bx w.bx))
    (choose (high r.ax == 0x08) _ _ (served.read_cell (high r.bx))
    (choose (high r.ax == 0x09) _ _ (served.write_cells (cell_run_of r true) (low_small r.ax) (low_small r.bx))
    (choose (high r.ax == 0x0A) _ _ (served.write_cells (cell_run_of r false) (low_small r.ax) (low_small r.bx))
    (choose (high r.ax == 0x0C) _ _ (served.write_pixel (high r.bx) r.cx r.dx (low r.ax) (low_small r.ax))
    (choose (high r.ax == 0x0D) _ _ (served.read_pixel (high r.bx) r.cx r.dx)
    (choose (high r.ax == 0x0E) _ _ (served.teletype (low r.ax) (low r.bx) (low_small r.ax) (low_small r.bx))
    (choose (high r.ax == 0x0F) _ _ (served.read_mode)
    (choose ((high r.ax == 0x12) && (low r.bx == 0x10)) _ _ (served.read_adapter)
    (choose ((high r.ax == 0x13) && nat_lt (low r.ax) 4) _ _ (served.write_string (string_of r) (low_small r.bx))
    (choose ((high r.ax == 0x1A) && (low r.ax == 0x00)) (Some ReadDisplay) None (served.read_display) tt)))))))))))))))

-- if a call asks for a service, that service is served
abbrev IsServedCall : Option Call → Type 0
IsServedCall (Some (InMode service)) = ServiceLeadsToNextScreen service
IsServedCall call = Unit {0}

choose_call : (b : Bool) (x y : Option Call) → IsServedCall x → IsServedCall y → IsServedCall (if b then x else y)
choose_call true x y f g = f
choose_call false x y f g = g

-- the subfunctions of function 10; the overscan is a byte
colour_services_lead_to_screens : (r : Regs) → AreRegistersWords r → IsServedCall (colour_call_of r)
colour_services_lead_to_screens r w =
    let al = low r.ax in
    choose_call (al == 0x00) _ _ (served.set_colours (SetRegister (low r.bx) (high r.bx)) tt)
    (choose_call (al == 0x01) _ _ (served.set_colours (SetOverscan (high r.bx)) (high_small r.bx w.bx))
    (choose_call (al == 0x02) _ _ (served.set_colours SetPalette tt)
    (choose_call (al == 0x03) _ _ (served.set_colours (SetBlinking (low r.bx)) tt)
    (choose_call (al == 0x07) _ _ (served.set_colours (ReadRegister (low r.bx)) tt)
    (choose_call (al == 0x08) _ _ (served.set_colours ReadOverscan tt)
    (choose_call (al == 0x09) _ _ tt
    (choose_call (al == 0x10) _ _ (served.set_colours (SetEntry r.bx (high r.dx) (high r.cx) (low r.cx)) tt)
    (choose_call (al == 0x12) _ _ (served.set_colours (SetEntries r.bx r.cx) tt)
    (choose_call (al == 0x15) _ _ (served.set_colours (ReadEntry r.bx) tt)
    (choose_call (al == 0x17) _ _ tt
    (choose_call (al == 0x18) _ _ (served.set_colours (SetMask (low r.bx)) tt)
    (choose_call (al == 0x19) (colours_call ReadMask) None (served.set_colours ReadMask tt) tt))))))))))))

call_is_served : (r : Regs) → AreRegistersWords r → IsServedCall (call_of r)
call_is_served r w =
    choose_call (high r.ax == 0x00) _ _ tt
    (choose_call (high r.ax == 0x10) _ _ (colour_services_lead_to_screens r w)
    (or_glyphs (glyph_load_of r) _ (by_service (service_of r) (asked_is_served r w))))
  where
    by_service : (x : Option Service) → IfSome x ServiceLeadsToNextScreen → IsServedCall (call_in_mode x)
    by_service None f = tt
    by_service (Some service) f = f

    or_glyphs : (g : Option GlyphLoad) (x : Option Call) → IsServedCall x → IsServedCall (glyph_load_or g x)
    or_glyphs None x f = f
    or_glyphs (Some load) x f = tt

-- ---- the call around a service

-- a call's reply, and the screen that it leads to, unless it is refused
pub record Leads (why : Option Refusal) (r : Regs) (s new : Screen) (x : CardState × CallOutcome) : Type 0 where
  pub reply : x.1.0 ≡ reply_unless_refused why r
  pub shows : shown x.0 x.1.1 ≡ Some (screen_unless_refused why s new)

unless_leads : (why : Option Refusal) (service : Service) (fonts : FontSet) (r : Regs) (block : List ℕ) (c : CardState) (d : BiosData) (s : Screen) →
    shown c d ≡ Some s → (why ≡ None → (card_after_service service fonts r block c d).1.0 ≡ answer_on fonts s service r)
    → (why ≡ None → (let x = card_after_service service fonts r block c d in shown x.0 x.1.1) ≡ Some (next fonts s service block))
    → Leads why (answer_on fonts s service r) s (next fonts s service block) (run card_meaning
    (unless_refused_plan why (service_with_page_or_0_if_only_one d service) fonts d r block) c)
unfolding unless_refused_plan
unless_leads (Some why) service fonts r block c d s old answer shows = record { reply = refl; shows = old }
unless_leads None service fonts r block c d s old answer shows =
    let done : ServiceOutcome → Plan CallOutcome = λ outcome. Done (answer_of_registers outcome.0 outcome.1) in
    let bound = run_bind card_meaning (plan_of_service (service_with_page_or_0_if_only_one d service) fonts d r block) done c in
    record {
      reply = ap (λ x. x.1.0) bound ∙ ap (reply_unless_refused None) (answer refl);
      shows = ap (λ x. shown x.0 x.1.1) bound ∙ shows refl;
    }

call_done : (service : Service) (fonts : FontSet) (r : Regs) (block : List ℕ) (c : CardState) (d : BiosData) (s : Screen) → call_of r ≡ Some (InMode service) →
    shown c d ≡ Some s → ServiceActsAsOnScreen service fonts r block c d s → ServiceCallLeadsToScreen service fonts r block c d s
unfolding service_in_mode_plan
call_done service fonts r block c d s e old i =
    let why = refusal_on s service (length block) in
    let plan = unless_refused_plan why (service_with_page_or_0_if_only_one d service) fonts d r block in
    let runs : after_call fonts r block c d ≡ run card_meaning plan c =
    ap (λ (q : Option Call). run card_meaning (call_plan q fonts d r block) c) e
    ∙ ap (λ b. run card_meaning (if b then refusal_plan NoMode d else unless_refused_plan (refusal_in_mode (service_with_page_or_0_if_only_one d service) d (length block)) (service_with_page_or_0_if_only_one d service)
    fonts d r block) c)
    (mode_of_shown c d s old).set
    ∙ ap (λ q. run card_meaning (unless_refused_plan q (service_with_page_or_0_if_only_one d service) fonts d r block) c) i.refusal in
    let t = unless_leads why service fonts r block c d s old i.answer i.shows in
    record {
      reply = ap (λ y. y.1.0) runs ∙ t.reply;
      shows = ap (λ y. shown y.0 y.1.1) runs ∙ t.shows;
      beam = ap (λ y. y.0.crtc.beam) runs ∙ plan_beam plan c;
    }

served_if : (x : Option Call) (service : Service) → x ≡ Some (InMode service) → IsServedCall x → ServiceLeadsToNextScreen service
served_if x service e f = subst IsServedCall e f

pub calls_lead : (service : Service) (fonts : FontSet) (r : Regs) (block : List ℕ) (c : CardState) (d : BiosData) (s : Screen) → IsCard c →
    IsBda d → AreRegistersWords r → AreBytes block → shown c d ≡ Some s → call_of r ≡ Some (InMode service) → ServiceCallLeadsToScreen service fonts r block c d s
calls_lead service fonts r block c d s z bda w bytes old e =
    let serves = served_if (call_of r) service e (call_is_served r w) in
    call_done service fonts r block c d s e old (serves fonts r block c d s bytes z bda old)

-- a call that asks for no service is refused
pub unknown_refused : (fonts : FontSet) (r : Regs) (block : List ℕ) (c : CardState) (d : BiosData) (s : Screen) → shown c d ≡ Some s → call_of r ≡ None →
    after_call fonts r block c d ≡ (c, (Err BadFunction, d))
unknown_refused fonts r block c d s old e =
    ap (λ (q : Option Call). run card_meaning (call_plan q fonts d r block) c) e
    ∙ ap (λ b. let y : CardState × CallOutcome = (c, (Err (if b then NoMode else BadFunction), d)) in y) (mode_of_shown c d s old).set

-- a call for a mode that does not exist is refused
pub mode_refused : (mode : ℕ) (keeps : Bool) (fonts : FontSet) (r : Regs) (block : List ℕ) (c : CardState) (d : BiosData) →
    call_of r ≡ Some (SetMode mode keeps) → mode_row mode ≡ None → after_call fonts r block c d ≡ (c, (Err BadMode, d))
unfolding set_mode_plan
mode_refused mode keeps fonts r block c d e none =
    ap (λ (q : Option Call). run card_meaning (call_plan q fonts d r block) c) e
    ∙ ap (λ x. run card_meaning (set_mode_plan x mode keeps fonts d r) c) none
