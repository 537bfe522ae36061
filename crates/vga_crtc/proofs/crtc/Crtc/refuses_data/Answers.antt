use Rattle.std.proofs.Common.{rules}
use Rattle.vga_crtc.specs.Ports.{after_out}
use Rattle.vga_crtc.proofs.crtc.Crtc.refuses_data.Goals as goal

pub returns-then-i-ge-COUNT : goal.returns-then-i-ge-COUNT
unfolding after_out
returns-then-i-ge-COUNT c = search rules

pub returns-else-i-ge-COUNT : goal.returns-else-i-ge-COUNT
unfolding after_out
returns-else-i-ge-COUNT c = search rules
