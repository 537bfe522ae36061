use Rattle.std.proofs.Common.{rules}
use Rattle.vga_crtc.proofs.crtc.Crtc.beam.Goals as goal

pub returns-clause-value : goal.returns-clause-value
returns-clause-value c = search rules

pub returns-clause-place : goal.returns-clause-place
returns-clause-place c = search rules
