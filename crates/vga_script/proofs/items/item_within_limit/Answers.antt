use Rattle.std.proofs.lemmas.Result.{err_from_is_err_and}
use Rattle.vga_script.proofs.items.item_within_limit.Goals as goal

-- no item stands there
pub returns-in_err-item-clause-fault : goal.returns-in_err-item-clause-fault
returns-in_err-item-clause-fault c = let p = err_from_is_err_and c.from_residual.result c.from_residual.ensures.1 in
    rw (p.1, p.2) (c.in_err-item.ensures.fault c.args.so_far)
