use Rattle.vga_c.proofs.LaneLemmas.{lanes_added}
use Rattle.vga_c.proofs.lane_sums.add_lanes.Goals as goal

pub returns : goal.returns
returns c = lanes_added c.args.a c.args.b c.ranges.a.fits c.ranges.b.fits c.requires
