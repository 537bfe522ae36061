use Rattle.std.proofs.Common.{rules}
use Rattle.vga_crtc.specs.Ports.{after_out}
use Rattle.vga_crtc.proofs.crtc.Crtc.out.Goals as goal

pub returns-then-not-at_data-clause-refused : goal.returns-then-not-at_data-clause-refused
unfolding after_out
returns-then-not-at_data-clause-refused c = search rules

pub returns-then-not-at_data-clause-ok : goal.returns-then-not-at_data-clause-ok
unfolding after_out
returns-then-not-at_data-clause-ok c = search rules

pub returns-then-i-ge-COUNT-clause-refused : goal.returns-then-i-ge-COUNT-clause-refused
unfolding after_out
returns-then-i-ge-COUNT-clause-refused c = search rules

pub returns-then-i-ge-COUNT-clause-ok : goal.returns-then-i-ge-COUNT-clause-ok
unfolding after_out
returns-then-i-ge-COUNT-clause-ok c = search rules

pub returns-clause-refused : goal.returns-clause-refused
unfolding after_out
returns-clause-refused c = search rules

pub returns-clause-ok : goal.returns-clause-ok
unfolding after_out
returns-clause-ok c = search rules
