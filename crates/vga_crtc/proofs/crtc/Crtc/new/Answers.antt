use Rattle.std.proofs.Common.{rules}
use Rattle.vga_crtc.proofs.crtc.Crtc.new.Goals as goal

pub returns : goal.returns
returns c = search rules
