-- A clearing mode set up to its memory: the registers, the DAC's entries, and the call around it.
use Rattle.std.proofs.Common.{◌≡◌, ℕ, ◌+◌, ◌<◌, refl, ap, ◌∙◌, subst, arith, List, length, Option, Some, false}
use Rattle.std.specs.Prelude.{slice_index}
use Rattle.vga_dac.specs.declared.component.Component.TheVariants.{Red}
use Rattle.bios_screen.proofs.Prelude.{DacState, IsCard, card_meaning, CardState, ModeRow, FontSet, data_of_mode, BiosData, AreBytes, Regs, Plan, Done, run}
use Rattle.bios_screen.proofs.Prelude.{each, ◌>>◌, shown}
use Rattle.vga_card.specs.Port.{port_of as reached_by}
use Rattle.vga_card.specs.Cycles.{out_reached}
use Rattle.bios_modes.specs.Modes.{mode_row}
use Rattle.bios_modes.specs.declared.palette.Palette.{Palette as DefaultPalette}
use Rattle.bios_modes.specs.Palette.{palette_entry}
use Rattle.bios_services.specs.declared.call.Call.{Call}
use Rattle.bios_services.specs.declared.call.Call.TheVariants.{SetMode}
use Rattle.bios_services.specs.Service.{call_plan, set_mode_plan, answer_of_registers, CallOutcome, service as whole_service}
use Rattle.bios_services.specs.ModeSet.{write_registers_plan, write_dac_entry_plan, mask_and_palette_plan, mode_set_plan}
use Rattle.bios_screen.specs.Shown.{palette_of_card}
use Rattle.bios_screen.specs.Fresh.{default_component, fresh_palette, fresh_screen}
use Rattle.bios_screen.specs.AfterCall.{ModeSetShowsFreshScreen}
use Rattle.bios_screen.proofs.Base.Plans.{then_runs, then_answers}
use Rattle.bios_screen.proofs.Base.Lists.{same_from_0, spelled}
use Rattle.bios_services.proofs.CardLemmas.{plan_bounds, plan_beam}
use Rattle.bios_screen.proofs.Modes.Registers.{in_mode, IsSet, registers_set}
use Rattle.bios_screen.proofs.Modes.Entries.{Colour as Entry, colour_of, entry_at, without_entries, before_entry, entries_written, keeps}

-- ---- the DAC

-- if x and y differ only in DAC entries, x is y with the entries of x
but_entries : (x y : CardState) → without_entries x ≡ without_entries y → x ≡ record y { dac = record x.dac { mask = y.dac.mask } }
but_entries x y e = ap (λ s. let r : CardState = record s { dac = record x.dac { mask = s.dac.mask } } in r) e

component_same : (palette : DefaultPalette) (i n : ℕ) (l : List ℕ) → length l ≡ n →
    ((k : ℕ) → k < n → slice_index l k ≡ slice_index (palette_entry palette k) i) →
    l ≡ default_component palette i n
unfolding default_component
component_same palette i n l e h = spelled l n e ∙ same_from_0 (λ k. slice_index (palette_entry palette k) i) (slice_index l) n h

-- the DAC's mask is FF, and its index is 0
abbrev unmasked : CardState → CardState
unmasked c = record c { dac = record c.dac { mask = 0xFF; index = 0; component = Red } }

masked_is : (palette : DefaultPalette) (c : CardState) (n : ℕ) → (run card_meaning (mask_and_palette_plan palette n) c).0
    ≡ (run card_meaning (each (λ i. write_dac_entry_plan (palette_entry palette i)) n 0) (unmasked c)).0
unfolding mask_and_palette_plan reached_by out_reached
masked_is palette c n = refl

-- a DAC has the colours of a default palette
pub record HasColours (palette : DefaultPalette) (d : DacState) : Type 0 where
  pub mask : d.mask ≡ 0xFF
  pub reds : d.reds ≡ default_component palette 0 256
  pub greens : d.greens ≡ default_component palette 1 256
  pub blues : d.blues ≡ default_component palette 2 256

-- the adapter with a mode's registers and this DAC
abbrev pub coloured : ModeRow → CardState → DacState → CardState
coloured row c d = record (in_mode row c) { dac = d }

-- with these colours the palette is the fresh screen's
pub palette_is : (row : ModeRow) (c : CardState) (d : DacState) → HasColours row.palette d → palette_of_card (coloured row c d) ≡ fresh_palette row
palette_is row c d t = rw (t.mask, t.reds, t.greens, t.blues) refl

-- what a mode's registers and palette leave, before the rest of the plan
pub record Prepared (row : ModeRow) (c : CardState) : Type 0 where
  pub dac : DacState
  pub colours : HasColours row.palette dac
  pub bounds : IsCard (coloured row c dac)
  pub runs : (rest : Plan (Unit {0})) → (run card_meaning (write_registers_plan row >> (mask_and_palette_plan row.palette 256 >> rest)) c).0
      ≡ (run card_meaning rest (coloured row c dac)).0

pub prepared : (mode : ℕ) (row : ModeRow) (c : CardState) → IsSet mode row → IsCard c → Prepared row c
prepared mode row c is z =
    let entries = each (λ i. write_dac_entry_plan (palette_entry row.palette i)) 256 0 in
    let y0 = in_mode row c in
    let z0 : IsCard y0 = subst IsCard (registers_set mode row c is z) (plan_bounds (write_registers_plan row) c z) in
    let y1 = unmasked y0 in
    let z1 : IsCard y1 = record {
      host = z0.host;
      crtc = z0.crtc;
      attr = z0.attr;
      dac = record { reds = z0.dac.reds; greens = z0.dac.greens; blues = z0.dac.blues };
    } in
    let s2 = (run card_meaning entries y1).0 in
    let set = entries_written (without_entries y1) (palette_entry row.palette) 0 256 y1 (entry_at y1.dac) (omega arith)
    (before_entry y1 0 z1.dac (omega arith)) in
    let d : DacState = record s2.dac { mask = 0xFF } in
    let e : s2 ≡ coloured row c d = but_entries s2 y1 set.shown.others in
    let entry : (i : ℕ) → i < 256 → entry_at d i ≡ colour_of (palette_entry row.palette i) = λ i l.
    let at : i ≡ 0 + i = omega arith in
    set.shown.entry i l ∙ ap set.cells at ∙ set.fact.inside (record { turn = i; from = omega arith; before = l; place = tt }) ∙ keeps row.palette i l in
    record {
      dac = d;
      colours = record {
        mask = refl;
        reds = component_same row.palette 0 256 d.reds set.shown.reds (λ i l. ap (λ (x : Entry). x.red) (entry i l));
        greens = component_same row.palette 1 256 d.greens set.shown.greens (λ i l. ap (λ (x : Entry). x.green) (entry i l));
        blues = component_same row.palette 2 256 d.blues set.shown.blues (λ i l. ap (λ (x : Entry). x.blue) (entry i l));
      };
      bounds = subst IsCard e (plan_bounds entries y1 z1);
      runs = λ rest.
          then_runs (write_registers_plan row) (mask_and_palette_plan row.palette 256 >> rest) c
          ∙ ap (λ x. (run card_meaning (mask_and_palette_plan row.palette 256 >> rest) x).0) (registers_set mode row c is z)
          ∙ then_runs (mask_and_palette_plan row.palette 256) rest y0
          ∙ ap (λ x. (run card_meaning rest x).0) (masked_is row.palette y0 256 ∙ e);
    }

-- ---- the call

-- the call's plan is the mode's
call_is : (mode : ℕ) (row : ModeRow) (fonts : FontSet) (r : Regs) (block : List ℕ) (d : BiosData) → mode_row mode ≡ Some row →
    call_plan (Some (SetMode mode false)) fonts d r block
    ≡ (mode_set_plan row false fonts >> (let q : Plan CallOutcome = Done (answer_of_registers r (data_of_mode mode row)) in q))
unfolding set_mode_plan
call_is mode row fonts r block d e = ap (λ x. set_mode_plan x mode false fonts d r) e

-- the plan leads to a state that shows the fresh screen
abbrev pub ShowsFresh : ℕ → ModeRow → Type 0
ShowsFresh mode row = (c : CardState) (fonts : FontSet) → IsCard c → AreBytes fonts.f16 →
    shown (run card_meaning (mode_set_plan row false fonts) c).0 (data_of_mode mode row) ≡ Some (fresh_screen mode row fonts.f16 c.crtc.beam.frame)

pub sets_fresh : (mode : ℕ) (row : ModeRow) → IsSet mode row → ShowsFresh mode row → ModeSetShowsFreshScreen mode row
sets_fresh mode row is shows_fresh fonts r block c d z small e =
    let plan = mode_set_plan row false fonts in
    let done : Plan CallOutcome = Done (answer_of_registers r (data_of_mode mode row)) in
    let runs : run card_meaning (whole_service fonts d r block) c ≡ run card_meaning (plan >> done) c =
    ap (λ (x : Option Call). run card_meaning (call_plan x fonts d r block) c) e
    ∙ ap (λ p. run card_meaning p c) (call_is mode row fonts r block d is.table) in
    record {
      answer = ap (λ x. x.1.0) runs ∙ ap (λ (x : CallOutcome). x.0) (then_answers plan done c);
      shows = ap (λ x. shown x.0 x.1.1) runs
          ∙ ap (λ y. shown y (run card_meaning (plan >> done) c).1.1) (then_runs plan done c)
          ∙ ap (λ (x : CallOutcome). shown (run card_meaning plan c).0 x.1) (then_answers plan done c)
          ∙ shows_fresh c fonts z small;
      beam = ap (λ x. x.0.crtc.beam) runs ∙ plan_beam (plan >> done) c;
    }
