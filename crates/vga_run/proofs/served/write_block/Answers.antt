use Rattle.std.proofs.Common.{codes}
use Rattle.std.proofs.lemmas.Result.{err_from_is_err_and}
use Rattle.vga_bits.proofs.WritingLemmas.{prefix_of_more}
use Rattle.vga_run.proofs.ServedLemmas.{digits}
use Rattle.vga_run.proofs.served.write_block.Goals as goal

-- a prefix of the word is a prefix of both
pub returns-in_err-write_whole : goal.returns-in_err-write_whole
returns-in_err-write_whole g c =
    let w = c.in_err-write_whole.ensures in
    let p = err_from_is_err_and c.from_residual.result c.from_residual.ensures.1 in
    rw (p.1, p.2) (w.0, w.1, prefix_of_more _ _ (codes " block ") (digits c.args.bytes.now) w.2)
