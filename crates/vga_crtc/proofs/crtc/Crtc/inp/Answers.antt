use Rattle.std.proofs.Common.{rules}
use Rattle.vga_crtc.proofs.crtc.Crtc.inp.Goals as goal

pub returns-then-not-at_data-clause-refused : goal.returns-then-not-at_data-clause-refused
returns-then-not-at_data-clause-refused c = search rules

pub returns-then-not-at_data-clause-ok : goal.returns-then-not-at_data-clause-ok
returns-then-not-at_data-clause-ok c = search rules

pub returns-then-i-ge-COUNT-clause-refused : goal.returns-then-i-ge-COUNT-clause-refused
returns-then-i-ge-COUNT-clause-refused c = search rules

pub returns-then-i-ge-COUNT-clause-ok : goal.returns-then-i-ge-COUNT-clause-ok
returns-then-i-ge-COUNT-clause-ok c = search rules

pub returns-clause-refused : goal.returns-clause-refused
returns-clause-refused c = search rules

pub returns-clause-ok : goal.returns-clause-ok
returns-clause-ok c = search rules
