use Rattle.std.proofs.Common.{arith, rules}
use Rattle.std.proofs.lemmas.Grind.{common_steps}
use Rattle.vga_crtc.specs.Raster.{dots_to_frame_end}
use Rattle.vga_crtc.proofs.beam.Beam.dots_to_frame_end.Goals as goal

pub returns-clause-value : goal.returns-clause-value
unfolding dots_to_frame_end
returns-clause-value c = search rules

pub returns-clause-at_most : goal.returns-clause-at_most
unfolding dots_to_frame_end
returns-clause-at_most c = grind (arith, common_steps)
