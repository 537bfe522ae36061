use Rattle.std.proofs.Common.{arith, refl}
use Rattle.vga_bits.proofs.SavedLemmas.{put_word_more}
use Rattle.bios_modes.proofs.bda.saved.put_cursor_positions.Goals as goal

pub loop-page-preserved : goal.loop-page-preserved
loop-page-preserved c = record {
  put = put_word_more c.args.places.now c.loop-page.page _ (omega (arith, c.fits-places)) refl c.loop-page.invariant.put c.put_word-next.ensures.put;
  place = omega (arith, c.loop-page.invariant.place, c.put_word-next.ensures.end);
}
