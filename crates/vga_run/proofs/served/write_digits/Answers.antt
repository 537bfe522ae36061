use Rattle.std.proofs.Common.{arith, refl}
use Rattle.std.proofs.lemmas.Result.{err_from_is_err_and}
use Rattle.vga_run.proofs.ServedLemmas.{digits_prefix}
use Rattle.vga_run.proofs.served.write_digits.Goals as goal

-- where the writer fails, it has a prefix of all the digits
pub returns-in_err-write_whole : goal.returns-in_err-write_whole
returns-in_err-write_whole g c =
    let w = rw (c.as_slice.ensures, c.push_hex_byte.ensures.items, c.new-digits.ensures) at c.in_err-write_whole.ensures in
    let p = err_from_is_err_and c.from_residual.result c.from_residual.ensures.1 in
    rw (p.1, p.2) (w.0, w.1, digits_prefix _ _ _ c.args.bytes.now c.loop-byte.byte-index 0 _ (omega arith) refl c.loop-byte.invariant.written w.2)
