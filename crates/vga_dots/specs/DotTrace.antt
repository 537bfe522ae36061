-- What is told of the dot at the beam: each number and each decision between the registers and its
-- colour, as the definitions of its colour have them.
-- From the IBM PS/2 Hardware Interface Technical Reference, Video Subsystems.
use Rattle.std.specs.Prelude.{ℕ, ◌≡◌, true, MatchOption, List, [], ◌∷◌, bit_and}
use Rattle.vga_bits.specs.Four.{Four}
use Rattle.vga_planes.specs.Planes.{byte_at}
use Rattle.vga_host.specs.Sequencer.{is_screen_off}
use Rattle.vga_host.specs.Graphics.{is_graphics, is_256_colours}
use Rattle.vga_crtc.specs.Status.{is_display}
use Rattle.vga_attr.specs.Fields.{is_palette_shown}
use Rattle.vga_dots.specs.declared.dot_trace.DotTrace.{DotTrace}
use Rattle.vga_dots.specs.SourceDot.{panning_shift, source_dot}
use Rattle.vga_dots.specs.Fetch.{address_fetched_at_beam}
use Rattle.vga_dots.specs.Colour.{colour_number, dot_colour}
use Rattle.vga_dots.specs.Display.{DisplayState}
use Rattle.vga_dots.specs.TextTrace.{IsTextTrace}
use Rattle.vga_dots.specs.PaletteTrace.{IsPaletteTrace}

-- the bytes of planes 0 to 3 at an address
abbrev pub bytes_in_order : Four (List ℕ) → ℕ → List ℕ
bytes_in_order planes address = byte_at planes 0 address ∷ byte_at planes 1 address
    ∷ byte_at planes 2 address ∷ byte_at planes 3 address ∷ []

-- This is told of the dot at the beam: whether it is displayed; the panning; the dot of a character
-- that it comes from; the address and the bytes there; in text what text makes of it, and but for
-- 256 colours what the palette makes of it; the number of its colour, as it passes the DAC's mask;
-- and the colour.
pub record IsDotTrace (d : DisplayState) (told : DotTrace) : Type 0 where
  pub display : told.is_display ≡ is_display d.crtc.registers d.crtc.beam
  pub panning : told.panning_shift ≡ panning_shift d.host d.crtc d.attr
  pub source : told.source ≡ source_dot d.host d.crtc d.attr
  pub address : told.address ≡ address_fetched_at_beam d.host d.crtc d.attr
  pub bytes : told.bytes ≡ bytes_in_order d.host.memory told.address
  pub text : MatchOption told.text (is_graphics d.host ≡ true) (IsTextTrace d)
  pub palette : MatchOption told.palette (is_256_colours d.host ≡ true) (IsPaletteTrace d)
  pub shown : told.is_palette_shown ≡ is_palette_shown d.attr
  pub number : told.number ≡ colour_number d.host d.crtc d.attr
  pub mask : told.mask ≡ d.dac.mask
  pub entry : told.entry ≡ bit_and told.number told.mask
  pub off : told.is_screen_off ≡ is_screen_off d.host
  pub colour : told.colour ≡ dot_colour d.host d.crtc d.attr d.dac
