use Rattle.std.proofs.Common.{rules}
use Rattle.bios_services.specs.Pixels.{write_planar_pixel_plan}
use Rattle.bios_services.proofs.pixels.write_planar_pixel.Goals as goal

pub returns : goal.returns
unfolding write_planar_pixel_plan
returns c = search rules
