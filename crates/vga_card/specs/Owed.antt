-- Dots that a cycle need not wait for: those that see the same before and after the cycle.
use Rattle.std.specs.Prelude.{◌≡◌, ℕ, ◌<◌, true, List}
use Rattle.vga_bits.specs.Four.{Four}
use Rattle.vga_crtc.specs.Crtc.{CrtcState}
use Rattle.vga_crtc.specs.Beam.{crtc_with_start_taken, after_dots}
use Rattle.vga_crtc.specs.Status.{is_display}
use Rattle.vga_dots.specs.Fetch.{DotSeesSameBytes}
use Rattle.vga_dots.specs.Seen.{DotsSeeSameRegisters}
use Rattle.vga_card.specs.Card.{CardState}
use Rattle.vga_card.specs.Dots.{character_width}

-- the beam after n dots, with the start of its frame taken
abbrev pub crtc_after_dots_with_start_taken : CardState → ℕ → CrtcState
crtc_after_dots_with_start_taken c n = crtc_with_start_taken (after_dots c.crtc (character_width c) n)

-- each display dot among the next n sees the same in another memory as in the card's
pub record DotsSeeSameMemory (n : ℕ) (c : CardState) (memory : Four (List ℕ)) : Type 0 where
  pub each : (i : ℕ) → i < n → is_display (crtc_after_dots_with_start_taken c i).registers (crtc_after_dots_with_start_taken c i).beam ≡ true
      →
      DotSeesSameBytes c.host (crtc_after_dots_with_start_taken c i) c.attr memory

-- What a cycle changes is hidden from dots. It is in the host path, and is neither the memory nor a
-- register that a dot sees.
pub record IsChangeHiddenFromDots (c new : CardState) : Type 0 where
  pub rest : record new { host = c.host } ≡ c
  pub host : DotsSeeSameRegisters c.host new.host
