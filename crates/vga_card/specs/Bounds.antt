-- What an adapter holds, whatever was written.
use Rattle.vga_host.specs.Bounds.{IsHost}
use Rattle.vga_crtc.specs.Bounds.{IsCrtc}
use Rattle.vga_attr.specs.Attr.{IsAttr}
use Rattle.vga_dac.specs.Dac.{IsDac}
use Rattle.vga_card.specs.Card.{CardState}

-- Each part of the adapter is within its bounds: lists have their lengths, memory holds bytes,
-- registers hold only bits that they keep, and the beam is within its bounds.
pub record IsCard (c : CardState) : Type 0 where
  pub host : IsHost c.host
  pub crtc : IsCrtc c.crtc
  pub attr : IsAttr c.attr
  pub dac : IsDac c.dac
