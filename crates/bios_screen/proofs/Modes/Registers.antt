-- The registers of a mode set, from any state.
use Rattle.std.proofs.Common.{◌≡◌, ℕ, ap, ◌∙◌, List, false, Some}
use Rattle.std.specs.Prelude.{slice_index}
use Rattle.bios_screen.proofs.Prelude.{IsCard, card_meaning, CardState, ModeRow, run, list_by_function}
use Rattle.bios_modes.specs.Modes.{mode_row}
use Rattle.bios_services.specs.ModeSet.{write_registers_plan}
use Rattle.bios_screen.proofs.Base.Lists.{spelled}

abbrev with_registers : CardState → List ℕ → List ℕ → List ℕ → List ℕ → CardState
with_registers c seq gfx crtc attr = record c {
  host = record c.host { seq = seq; gfx = gfx };
  crtc = record c.crtc { registers = crtc };
  attr = record c.attr { registers = attr };
}

abbrev pub spelled_card : CardState → CardState
spelled_card c = with_registers c (list_by_function (slice_index c.host.seq) 0 5) (list_by_function (slice_index c.host.gfx) 0 9) (list_by_function (slice_index c.crtc.registers) 0 25)
    (list_by_function (slice_index c.attr.registers) 0 21)

card_spelled : (c : CardState) → IsCard c → c ≡ spelled_card c
card_spelled c z =
    ap (λ x. with_registers c x c.host.gfx c.crtc.registers c.attr.registers) (spelled c.host.seq 5 z.host.seq_size)
    ∙ ap (λ x. with_registers c (list_by_function (slice_index c.host.seq) 0 5) x c.crtc.registers c.attr.registers) (spelled c.host.gfx 9 z.host.gfx_size)
    ∙ ap (λ x. with_registers c (list_by_function (slice_index c.host.seq) 0 5) (list_by_function (slice_index c.host.gfx) 0 9) x c.attr.registers)
    (spelled c.crtc.registers 25 z.crtc.size)
    ∙ ap (λ x. with_registers c (list_by_function (slice_index c.host.seq) 0 5) (list_by_function (slice_index c.host.gfx) 0 9) (list_by_function (slice_index c.crtc.registers) 0 25) x)
    (spelled c.attr.registers 21 z.attr.size)

-- the adapter with a mode's registers; memory, latches, DAC, beam and drawn dots are as they were
abbrev pub in_mode : ModeRow → CardState → CardState
in_mode row c = record c {
  host = record c.host { seq = row.sequencer; gfx = row.graphics; seq_index = 4; gfx_index = 8 };
  crtc = record c.crtc { registers = row.crtc; index = 24 };
  attr = record { registers = row.attribute; index = 0x20; is_data = false };
  misc = row.misc;
}

-- the row is the mode's, and a mode set writes its registers; this is computed for literals
pub record IsSet (mode : ℕ) (row : ModeRow) : Type 0 where
  pub table : mode_row mode ≡ Some row
  pub literal : (c : CardState) → (run card_meaning (write_registers_plan row) (spelled_card c)).0 ≡ in_mode row c

pub registers_set : (mode : ℕ) (row : ModeRow) (c : CardState) → IsSet mode row → IsCard c → (run card_meaning (write_registers_plan row) c).0 ≡ in_mode row c
registers_set mode row c is z = ap (λ x. (run card_meaning (write_registers_plan row) x).0) (card_spelled c z) ∙ is.literal c
