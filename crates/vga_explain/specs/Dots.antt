-- What a dot is drawn from that need not be at the adapter's own beam.
use Rattle.vga_crtc.specs.declared.beam.Beam.{Beam}
use Rattle.vga_crtc.specs.Beam.{crtc_with_start_taken}
use Rattle.vga_dots.specs.Display.{DisplayState, display_of}
use Rattle.vga_card.specs.Card.{CardState}

-- what the adapter would draw the dot at this beam from: its own parts, with the start of the frame
-- taken where one begins
abbrev pub display_with_beam : CardState → Beam → DisplayState
display_with_beam c beam =
    display_of c.host (crtc_with_start_taken (record c.crtc { beam = beam })) c.attr c.dac
