use Rattle.vga_bits.proofs.WritingLemmas.{written_more, took_some}
use Rattle.vga_bits.proofs.tracked.write_rest.Goals as goal

-- the piece that was taken joins what is written
pub loop-rest-preserved : goal.loop-rest-preserved
loop-rest-preserved g c =
    let e = c.in-Ok.ensures in
    let sound = took_some _ _ _ _ e.failed c.loop-rest.invariant.sound c.in-Ok.n-test.1 in
    rw c.split_at.ensures.back (written_more _ _ _ _ _ _ _ c.in-Ok.n c.loop-rest.invariant e.bytes sound)
