use Rattle.std.proofs.Common.{rules}
use Rattle.vga_host.proofs.host.Host.inp.Goals as goal

pub returns-then-refuses_inp-clause-refused : goal.returns-then-refuses_inp-clause-refused
returns-then-refuses_inp-clause-refused c = search rules

pub returns-then-refuses_inp-clause-ok : goal.returns-then-refuses_inp-clause-ok
returns-then-refuses_inp-clause-ok c = search rules

pub returns-in-964-clause-refused : goal.returns-in-964-clause-refused
returns-in-964-clause-refused c = search rules

pub returns-in-964-clause-ok : goal.returns-in-964-clause-ok
returns-in-964-clause-ok c = search rules

pub returns-in-965-clause-refused : goal.returns-in-965-clause-refused
returns-in-965-clause-refused c = search rules

pub returns-in-965-clause-ok : goal.returns-in-965-clause-ok
returns-in-965-clause-ok c = search rules

pub returns-in-974-clause-refused : goal.returns-in-974-clause-refused
returns-in-974-clause-refused c = search rules

pub returns-in-974-clause-ok : goal.returns-in-974-clause-ok
returns-in-974-clause-ok c = search rules

pub returns-in_default-clause-refused : goal.returns-in_default-clause-refused
returns-in_default-clause-refused c = search rules

pub returns-in_default-clause-ok : goal.returns-in_default-clause-ok
returns-in_default-clause-ok c = search rules
