use Rattle.std.proofs.Common.{rules}
use Rattle.vga_crtc.specs.Saved.{crtc_from}
use Rattle.vga_crtc.proofs.crtc.Crtc.saved_beam.Goals as goal

pub returns : goal.returns
unfolding crtc_from
returns c = search rules
