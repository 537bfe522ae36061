-- What a cycle reads and changes of the adapter: all but the beam and the dots drawn.
use Rattle.std.specs.Prelude.{ℕ, List}
use Rattle.vga_host.specs.Host.{HostState}
use Rattle.vga_crtc.specs.declared.beam.Beam.{Beam}
use Rattle.vga_crtc.specs.Crtc.{CrtcState}
use Rattle.vga_attr.specs.Attr.{AttrState}
use Rattle.vga_dac.specs.Dac.{DacState}
use Rattle.vga_card.specs.Card.{CardState}

-- the parts of a card that cycles read and change: all but the beam and the dots drawn; `registers`
-- and `index` are those of the CRT controller
pub record CardStateWithoutBeamAndDots : Type 0 where
  pub host : HostState
  pub registers : List ℕ
  pub index : ℕ
  pub attr : AttrState
  pub dac : DacState
  pub misc : ℕ

-- a card without its beam and the dots drawn
abbrev pub without_beam_and_dots : CardState → CardStateWithoutBeamAndDots
without_beam_and_dots c = record {
  host = c.host;
  registers = c.crtc.registers;
  index = c.crtc.index;
  attr = c.attr;
  dac = c.dac;
  misc = c.misc;
}

-- the CRT controller of an adapter, with its beam at b
abbrev pub crtc_of : Beam → CardStateWithoutBeamAndDots → CrtcState
crtc_of b a = record { registers = a.registers; index = a.index; beam = b }

-- the adapter with the registers and the index of this CRT controller
abbrev pub with_crtc : CardStateWithoutBeamAndDots → CrtcState → CardStateWithoutBeamAndDots
with_crtc a crtc = record a { registers = crtc.registers; index = crtc.index }

-- the card with the parts of this adapter; its beam and its dots stay the same
abbrev pub with_adapter : CardState → CardStateWithoutBeamAndDots → CardState
with_adapter c a = record c {
  host = a.host;
  crtc = crtc_of c.crtc.beam a;
  attr = a.attr;
  dac = a.dac;
  misc = a.misc;
}
