use Rattle.std.proofs.Common.{arith}
use Rattle.vga_bits.proofs.SavedLemmas.{put_word_more}
use Rattle.vga_card.proofs.canvas.saved.put_widths.Goals as goal

pub loop-line-preserved : goal.loop-line-preserved
loop-line-preserved c = record {
  put = put_word_more c.args.widths.now c.loop-line.line _ (omega arith) (omega (arith, c.requires.narrow c.loop-line.line)) c.loop-line.invariant.put
      c.put_word-next.ensures.put;
  place = omega (arith, c.loop-line.invariant.place, c.put_word-next.ensures.end);
}
