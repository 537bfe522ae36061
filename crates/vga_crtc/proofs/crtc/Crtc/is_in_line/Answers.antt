use Rattle.std.proofs.Common.{rules}
use Rattle.vga_crtc.proofs.crtc.Crtc.is_in_line.Goals as goal

pub returns-then-self-characters : goal.returns-then-self-characters
returns-then-self-characters c = search rules

pub returns-else-self-characters : goal.returns-else-self-characters
returns-else-self-characters c = search rules
