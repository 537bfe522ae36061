use Rattle.std.proofs.Common.{rules}
use Rattle.vga_crtc.specs.Beam.{after_dot}
use Rattle.vga_crtc.proofs.crtc.Crtc.step_dot.Goals as goal

pub returns : goal.returns
unfolding after_dot
returns c = search rules
