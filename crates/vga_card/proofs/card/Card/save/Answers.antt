use Rattle.std.proofs.Common.{arith}
use Rattle.std.proofs.lemmas.Grind.{common_steps}
use Rattle.vga_bits.proofs.SavedLemmas.{put_behind}
use Rattle.vga_card.specs.Saved.{saved_card}
use Rattle.vga_card.proofs.card.Card.save.Goals as goal

pub returns-then-is_first_dot_of_frame : goal.returns-then-is_first_dot_of_frame
unfolding saved_card
returns-then-is_first_dot_of_frame c = record {
  end = grind (arith, common_steps);
  prefix = grind (arith, common_steps);
  back = (put_behind c.put_byte-at.ensures.put (put_behind c.save-at.ensures.put (put_behind c.save-at-2.ensures.put
      (put_behind c.save-at-3.ensures.put (put_behind c.save-at-4.ensures.put (c.put_zero_widths.ensures.put)))))).back;
}

pub returns-else-is_first_dot_of_frame : goal.returns-else-is_first_dot_of_frame
unfolding saved_card
returns-else-is_first_dot_of_frame c = record {
  end = grind (arith, common_steps);
  prefix = grind (arith, common_steps);
  back = (put_behind c.put_byte-at.ensures.put (put_behind c.save-at.ensures.put (put_behind c.save-at-2.ensures.put
      (put_behind c.save-at-3.ensures.put (put_behind c.save-at-4.ensures.put (c.save.ensures.put)))))).back;
}
