use Rattle.std.proofs.Common.{rules}
use Rattle.vga_script.proofs.assembling.append_repeat_body.Goals as goal

pub returns-then-is_repeat_end_line-clause-found : goal.returns-then-is_repeat_end_line-clause-found
returns-then-is_repeat_end_line-clause-found c = search rules

pub returns-then-is_repeat_end_line-clause-fault : goal.returns-then-is_repeat_end_line-clause-fault
returns-then-is_repeat_end_line-clause-fault c = search rules

pub returns-clause-found : goal.returns-clause-found
returns-clause-found c = search rules

pub returns-clause-fault : goal.returns-clause-fault
returns-clause-fault c = search rules
