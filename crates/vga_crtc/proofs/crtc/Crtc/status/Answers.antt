use Rattle.std.proofs.Common.{rules}
use Rattle.vga_crtc.specs.Status.{status}
use Rattle.vga_crtc.proofs.crtc.Crtc.status.Goals as goal

pub returns : goal.returns
unfolding status
returns c = search rules
