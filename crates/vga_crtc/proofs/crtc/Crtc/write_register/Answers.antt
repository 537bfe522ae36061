use Rattle.std.proofs.Common.{rules}
use Rattle.vga_crtc.proofs.crtc.Crtc.write_register.Goals as goal

pub returns-then-not-is_protected : goal.returns-then-not-is_protected
returns-then-not-is_protected c = search rules

pub returns-else-i-eq-OVERFLOW : goal.returns-else-i-eq-OVERFLOW
returns-else-i-eq-OVERFLOW c = search rules
