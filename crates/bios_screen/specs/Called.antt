-- A call on a plain screen: its reply or refusal, and the screen afterwards; and a call whose
-- allocation fails.
-- From the IBM PS/2 and PC BIOS Interface Technical Reference, "Interrupt 10H - Video".
use Rattle.std.specs.Prelude.{ℕ, ◌≡◌, ◌<◌, List, length, Option, Some, None, Result, Ok, Err}
use Rattle.vga_bits.specs.declared.refusal.Refusal.{Refusal}
use Rattle.vga_card.specs.Card.{CardState}
use Rattle.bios_modes.specs.Bda.{BiosData}
use Rattle.bios_modes.specs.Fonts.{FontSet}
use Rattle.bios_services.specs.declared.regs.Regs.{Regs}
use Rattle.bios_services.specs.declared.reply.Reply.{Reply}
use Rattle.bios_services.specs.declared.reply.Table.{Table}
use Rattle.bios_services.specs.declared.reply.Table.TheVariants.{Empty}
use Rattle.bios_services.specs.declared.reply.ServiceError.TheVariants.{OutOfMemory}
use Rattle.bios_services.specs.declared.tables.TableService.{TableService}
use Rattle.bios_services.specs.declared.call.Service.{Service}
use Rattle.bios_services.specs.declared.glyph_load.GlyphLoad.{GlyphLoad}
use Rattle.bios_services.specs.Tables.{table_refusal}
use Rattle.bios_services.specs.Service.{service as whole_service, MayAnswer}
use Rattle.vga_card.specs.Bus.{card_meaning}
use Rattle.bios_screen.specs.Screen.{Screen}
use Rattle.bios_screen.specs.Shown.{shown}
use Rattle.bios_screen.specs.Colours.{table_answer}
use Rattle.bios_screen.specs.Step.{refusal_on, next, answer_on}
use Rattle.bios_screen.specs.Loaded.{load_refusal_on, load_glyphs}
use Rattle.bios_screen.specs.AfterCall.{after_call}

-- the registers of a call are words
pub record AreRegistersWords (r : Regs) : Type 0 where
  pub ax : r.ax < 65536
  pub bx : r.bx < 65536
  pub cx : r.cx < 65536
  pub dx : r.dx < 65536

-- the reply of registers and a table, unless the call is refused
abbrev pub table_reply_unless_refused : Option Refusal → Table → Regs → Result Reply Refusal
table_reply_unless_refused None table r = Ok (record { regs = r; table = table })
table_reply_unless_refused (Some why) table r = Err why

-- the reply of registers alone, unless the call is refused
abbrev pub reply_unless_refused : Option Refusal → Regs → Result Reply Refusal
reply_unless_refused refusal r = table_reply_unless_refused refusal Empty r

-- the next screen, unless the call is refused; then the old one
abbrev pub screen_unless_refused : Option Refusal → Screen → Screen → Screen
screen_unless_refused None old new = new
screen_unless_refused (Some why) old new = old

-- a call for a service gives the screen's reply, leads to the next screen and leaves the beam
pub record ServiceCallLeadsToScreen (service : Service) (fonts : FontSet) (r : Regs)
    (block : List ℕ)
    (c : CardState) (d : BiosData) (s : Screen) : Type 0 where
  pub reply : (after_call fonts r block c d).1.0 ≡ reply_unless_refused
      (refusal_on s service (length block)) (answer_on fonts s service r)
  pub shows : shown (after_call fonts r block c d).0 (after_call fonts r block c d).1.1
      ≡ Some (screen_unless_refused (refusal_on s service (length block)) s (next fonts s service block))
  pub beam : (after_call fonts r block c d).0.crtc.beam ≡ c.crtc.beam

-- a call that loads glyphs replies with its registers and leads to the screen with these glyphs,
-- unless it is refused; it leaves the beam
pub record GlyphCallLeadsToScreen (load : GlyphLoad) (fonts : FontSet) (r : Regs) (block : List ℕ)
    (c : CardState)
    (d : BiosData) (s : Screen) : Type 0 where
  pub reply : (after_call fonts r block c d).1.0 ≡ reply_unless_refused
      (load_refusal_on s load (length block)) r
  pub shows : shown (after_call fonts r block c d).0 (after_call fonts r block c d).1.1
      ≡ Some (screen_unless_refused (load_refusal_on s load (length block)) s
      (load_glyphs fonts s load block))
  pub beam : (after_call fonts r block c d).0.crtc.beam ≡ c.crtc.beam

-- a call for a table gives the screen's table, unless it is refused; it leaves the screen and the
-- beam
pub record TableCallLeavesScreen (service : TableService) (fonts : FontSet) (r : Regs)
    (block : List ℕ)
    (c : CardState) (d : BiosData) (s : Screen) : Type 0 where
  pub reply : (after_call fonts r block c d).1.0 ≡ table_reply_unless_refused (table_refusal service)
      (table_answer s service) r
  pub shows : shown (after_call fonts r block c d).0 (after_call fonts r block c d).1.1 ≡ Some s
  pub beam : (after_call fonts r block c d).0.crtc.beam ≡ c.crtc.beam

-- the allocation of a table fails, and the call leaves this adapter and these data
abbrev pub CallRunsOutOfMemory : FontSet → Regs → List ℕ → CardState → BiosData → CardState
    → BiosData →
    Type 0
CallRunsOutOfMemory fonts r block c d y after =
    MayAnswer card_meaning (whole_service fonts d r block) c d
    (Err OutOfMemory) y after

-- the adapter and the data show the same screen as before, and the beam is where it was
pub record ScreenStaysShown (c : CardState) (s : Screen) (y : CardState)
    (after : BiosData) : Type 0 where
  pub shows : shown y after ≡ Some s
  pub beam : y.crtc.beam ≡ c.crtc.beam
