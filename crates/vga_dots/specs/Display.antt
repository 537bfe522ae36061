-- The four parts of the adapter that decide what is shown.
use Rattle.std.specs.Prelude.{◌≡◌, true, false}
use Rattle.vga_host.specs.Host.{HostState}
use Rattle.vga_host.specs.Sequencer.{is_screen_off}
use Rattle.vga_host.specs.Graphics.{is_graphics, is_256_colours}
use Rattle.vga_crtc.specs.Crtc.{CrtcState}
use Rattle.vga_attr.specs.Attr.{AttrState}
use Rattle.vga_attr.specs.Fields.{is_palette_shown}
use Rattle.vga_dac.specs.Dac.{DacState}

-- what a picture is drawn from: the registers and the memory, the beam, the palette, and the
-- colours
pub record DisplayState : Type 0 where
  pub host : HostState
  pub crtc : CrtcState
  pub attr : AttrState
  pub dac : DacState

-- the display of these four parts: its host path, its CRT controller, its attribute controller and
-- its DAC
abbrev pub display_of : HostState → CrtcState → AttrState → DacState → DisplayState
display_of host crtc attr dac = record { host = host; crtc = crtc; attr = attr; dac = dac }

-- memory is shown: the screen is on, and the palette is the screen's
pub record ShowsMemory (display : DisplayState) : Type 0 where
  pub on : is_screen_off display.host ≡ false
  pub shown : is_palette_shown display.attr ≡ true

-- memory is shown as text
pub record ShowsText (display : DisplayState) : Type 0 where
  pub memory : ShowsMemory display
  pub few : is_256_colours display.host ≡ false
  pub text : is_graphics display.host ≡ false

-- memory is shown as dots of 16 colours: each plane has one bit of a dot
pub record ShowsPlanes (display : DisplayState) : Type 0 where
  pub memory : ShowsMemory display
  pub few : is_256_colours display.host ≡ false
  pub graphics : is_graphics display.host ≡ true

-- memory is shown as dots of 256 colours: each byte is two dots
pub record ShowsBytes (display : DisplayState) : Type 0 where
  pub memory : ShowsMemory display
  pub many : is_256_colours display.host ≡ true
