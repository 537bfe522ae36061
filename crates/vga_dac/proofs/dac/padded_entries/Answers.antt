use Rattle.std.proofs.Common.{arith, rules}
use Rattle.vga_dac.proofs.EntryLemmas.{entries_more}
use Rattle.vga_dac.proofs.dac.padded_entries.Goals as goal

pub loop-i-preserved : goal.loop-i-preserved
loop-i-preserved c =
    let is = c.loop-i.invariant in
    let args = c.args in (
      search rules,
      entries_more c.loop-i.i c.loop-i.entries args.reds.now args.greens.now args.blues.now (omega (arith, is.0, c.loop-i-test.true)) is.1,
    )
