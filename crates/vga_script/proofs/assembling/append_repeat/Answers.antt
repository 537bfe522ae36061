use Rattle.std.proofs.Common.{◌+◌, option_copied}
use Rattle.vga_script.proofs.AssembleLemmas.{repeat_appended}
use Rattle.vga_script.proofs.assembling.append_repeat.Goals as goal

-- the opcodes and the count stand round the steps
pub returns-clause-found : goal.returns-clause-found
returns-clause-found c =
    repeat_appended (c.args.number + 1) (option_copied c.args.left) (option_copied c.in_ok-len.left) c.args.count c.in_ok-len.len c.in_ok-len.next _ _ _ _ _
    c.in_ok-append.ensures.ok c.in_ok-append_u16.ensures.ok c.in_ok-len.ensures.found c.in_ok-append-2.ensures.ok
