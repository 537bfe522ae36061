use Rattle.std.proofs.Common.{rules}
use Rattle.bios_services.specs.Pixels.{read_planar_pixel_plan}
use Rattle.bios_services.proofs.pixels.read_planar_pixel.Goals as goal

pub returns : goal.returns
unfolding read_planar_pixel_plan
returns c = search rules
