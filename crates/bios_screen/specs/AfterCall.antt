-- The claims of the laws: from a state that shows a screen, a service leads to a state that shows
-- the next screen.
use Rattle.std.specs.Prelude.{ℕ, ◌≡◌, ◌<◌, true, false, List, length, Some, None, Ok}
use Rattle.vga_card.specs.Card.{CardState}
use Rattle.vga_card.specs.Bounds.{IsCard}
use Rattle.vga_card.specs.Bus.{card_meaning}
use Rattle.bios_modes.specs.Bda.{BiosData}
use Rattle.bios_modes.specs.Bounds.{IsBda, AreBytes}
use Rattle.bios_services.specs.declared.regs.Regs.{Regs}
use Rattle.bios_modes.specs.declared.modes.ModeRow.{ModeRow}
use Rattle.bios_modes.specs.Fonts.{FontSet}
use Rattle.bios_services.specs.declared.reply.Table.TheVariants.{Empty}
use Rattle.bios_services.specs.declared.call.Call.TheVariants.{SetMode}
use Rattle.bios_services.specs.declared.call.Service.{Service}
use Rattle.bios_services.specs.declared.colours.ColourService.{ColourService}
use Rattle.bios_services.specs.declared.colours.ColourService.TheVariants.{SetOverscan}
use Rattle.bios_services.specs.Plan.{run}
use Rattle.bios_modes.specs.Kinds.{is_text}
use Rattle.bios_services.specs.Refusals.{service_with_page_or_0_if_only_one, refusal_in_mode}
use Rattle.bios_services.specs.Calls.{call_of}
use Rattle.bios_services.specs.Service.{plan_of_service, ServiceOutcome, CallOutcome}
use Rattle.bios_services.specs.Service.{service as whole_service}
use Rattle.bios_screen.specs.Screen.{Screen}
use Rattle.bios_screen.specs.Shown.{shown}
use Rattle.bios_screen.specs.Step.{refusal_on, next, answer_on}
use Rattle.bios_screen.specs.Fresh.{fresh_screen}

-- The adapter after a service, and the outcome: registers and BIOS data. The service is taken with
-- the page that its page number means.
abbrev pub card_after_service : Service → FontSet → Regs → List ℕ → CardState → BiosData → CardState
    × ServiceOutcome
card_after_service service fonts r block c d =
    run card_meaning (plan_of_service (service_with_page_or_0_if_only_one d service) fonts d r block) c

-- a service is refused for the screen's reason, or else gives the screen's answer and the next
-- screen; it leaves the beam
pub record ServiceActsAsOnScreen (service : Service) (fonts : FontSet) (r : Regs) (block : List ℕ)
    (c : CardState) (d : BiosData) (s : Screen) : Type 0 where
  pub refusal : refusal_in_mode (service_with_page_or_0_if_only_one d service) d (length block)
      ≡ refusal_on s service (length block)
  pub answer : refusal_on s service (length block) ≡ None →
      (card_after_service service fonts r block c d).1.0 ≡ answer_on fonts s service r
  pub shows : refusal_on s service (length block) ≡ None →
      shown (card_after_service service fonts r block c d).0
      (card_after_service service fonts r block c d).1.1 ≡ Some (next fonts s service block)
  pub beam : (card_after_service service fonts r block c d).0.crtc.beam ≡ c.crtc.beam

-- the overscan that a subfunction of function 10 sets is a byte
abbrev pub OverscanFitsByte : ColourService → Type 0
OverscanFitsByte (SetOverscan value) = value < 256
OverscanFitsByte service = Unit {0}

-- from every state that shows a screen, the service leads to a state that shows the next screen
abbrev pub ServiceLeadsToNextScreen : Service → Type 0
ServiceLeadsToNextScreen service =
    (fonts : FontSet) (r : Regs) (block : List ℕ) (c : CardState) (d : BiosData)
    (s : Screen) → AreBytes block → IsCard c → IsBda d → shown c d ≡ Some s →
    ServiceActsAsOnScreen service fonts r block c d s

-- from every state that shows a screen of text, the service leads to a state that shows the next
-- screen
abbrev pub TextServiceLeadsToNext : Service → Type 0
TextServiceLeadsToNext service =
    (fonts : FontSet) (r : Regs) (block : List ℕ) (c : CardState) (d : BiosData)
    (s : Screen) → AreBytes block → IsCard c → IsBda d → shown c d ≡ Some s →
    is_text s.mode ≡ true → ServiceActsAsOnScreen service fonts r block c d s

-- ---- a clearing mode set

-- the adapter, the reply and the data after a call
abbrev pub after_call : FontSet → Regs → List ℕ → CardState → BiosData → CardState × CallOutcome
after_call fonts r block c d = run card_meaning (whole_service fonts d r block) c

-- the mode is set, the fresh screen is shown, and the beam stays where it is
pub record IsFreshlySet (mode : ℕ) (row : ModeRow) (fonts : FontSet) (r : Regs) (block : List ℕ)
    (c : CardState) (d : BiosData) : Type 0 where
  pub answer : (after_call fonts r block c d).1.0 ≡ Ok (record { regs = r; table = Empty })
  pub shows : shown (after_call fonts r block c d).0 (after_call fonts r block c d).1.1
      ≡ Some (fresh_screen mode row fonts.f16 c.crtc.beam.frame)
  pub beam : (after_call fonts r block c d).0.crtc.beam ≡ c.crtc.beam

-- from every state and with any data, a call that sets the mode and clears the memory shows the
-- fresh screen
abbrev pub ModeSetShowsFreshScreen : ℕ → ModeRow → Type 0
ModeSetShowsFreshScreen mode row =
    (fonts : FontSet) (r : Regs) (block : List ℕ) (c : CardState) (d : BiosData) →
    IsCard c → AreBytes fonts.f16 → call_of r ≡ Some (SetMode mode false) →
    IsFreshlySet mode row fonts r block c d
