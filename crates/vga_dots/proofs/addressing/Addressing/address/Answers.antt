use Rattle.std.proofs.Common.{ap, ◌∙◌}
use Rattle.vga_dots.specs.declared.addressing.Addressing.{Addressing}
use Rattle.vga_dots.proofs.AddressingLemmas.{reached, reached_is}
use Rattle.vga_dots.proofs.addressing.Addressing.address.Goals as goal

pub returns : goal.returns
returns c = λ r same. ap (λ (a : Addressing). reached a c.args.counter) same ∙ reached_is r c.args.counter c.ranges.counter.fits
