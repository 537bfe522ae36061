-- What the dot at the beam sees of the memory: one byte of each plane at one address and, in text,
-- a glyph of plane 2.
-- From the IBM PS/2 Hardware Interface Technical Reference, Video Subsystems, "Alphanumeric Modes"
-- and "All Points Addressable Modes".
use Rattle.std.specs.Prelude.{◌≡◌, ℕ, ◌<◌, false, List}
use Rattle.vga_bits.specs.Four.{Four}
use Rattle.vga_planes.specs.Planes.{byte_at}
use Rattle.vga_host.specs.Host.{HostState}
use Rattle.vga_host.specs.Graphics.{is_graphics}
use Rattle.vga_crtc.specs.Crtc.{CrtcState}
use Rattle.vga_attr.specs.Attr.{AttrState}
use Rattle.vga_dots.specs.SourceDot.{source_dot, fetch_address}

-- the address in each plane that the dot at the beam fetches
abbrev pub address_fetched_at_beam : HostState → CrtcState → AttrState → ℕ
address_fetched_at_beam h c a = fetch_address c.registers (source_dot h c a).counter

-- another memory has the same bytes where the dot at the beam fetches them and, in text, the same
-- glyphs
pub record DotSeesSameBytes (h : HostState) (c : CrtcState) (a : AttrState)
    (memory : Four (List ℕ)) : Type 0 where
  pub fetched : (p : ℕ) → p < 4 →
      byte_at memory p (address_fetched_at_beam h c a) ≡ byte_at h.memory p (address_fetched_at_beam h c a)
  pub glyphs : is_graphics h ≡ false → (i : ℕ) → byte_at memory 2 i ≡ byte_at h.memory 2 i
