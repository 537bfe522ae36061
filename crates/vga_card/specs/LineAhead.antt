-- What the dots ahead of the beam on its line may fetch, whatever the memory is.
use Rattle.std.specs.Prelude.{◌≡◌, ℕ, ◌<◌, ◌≤◌, true}
use Rattle.vga_host.specs.Host.{HostState}
use Rattle.vga_host.specs.OffsetRun.{is_in_run}
use Rattle.vga_crtc.specs.Raster.{IsWithinItsLine}
use Rattle.vga_crtc.specs.Status.{is_display}
use Rattle.vga_attr.specs.Attr.{AttrState}
use Rattle.vga_dots.specs.Fetch.{address_fetched_at_beam}
use Rattle.vga_card.specs.declared.line_ahead.LineAhead.{LineAhead}
use Rattle.vga_card.specs.Card.{CardState}
use Rattle.vga_card.specs.Dots.{character_width}
use Rattle.vga_card.specs.Line.{card_dots_to_line_end}
use Rattle.vga_card.specs.Owed.{crtc_after_dots_with_start_taken}

-- the next `line.dots` dots are of the beam's line, and each display dot among them fetches an offset
-- of the run, whatever the host path and the attribute controller are
pub record IsLineAhead (line : LineAhead) (c : CardState) : Type 0 where
  pub inside : 0 < line.dots → IsWithinItsLine (character_width c) c.crtc.registers c.crtc.beam
  pub few : line.dots ≤ card_dots_to_line_end c
  pub at_most : line.dots ≤ 2340
  pub each : (h : HostState) (a : AttrState) (i : ℕ) → i < line.dots →
      is_display (crtc_after_dots_with_start_taken c i).registers (crtc_after_dots_with_start_taken c i).beam ≡ true
      →
      is_in_run line.fetched (address_fetched_at_beam h (crtc_after_dots_with_start_taken c i) a) ≡ true

-- Another adapter has the same beam, the same registers of the CRT controller, and characters of
-- the same width.
pub record IsAtSameLine (c new : CardState) : Type 0 where
  pub crtc : new.crtc ≡ c.crtc
  pub width : character_width new ≡ character_width c
