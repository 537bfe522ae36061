use Rattle.std.proofs.Common.{◌∙◌, refl, arith}
use Rattle.vga_card.proofs.SkipLemmas.{past_frame}
use Rattle.vga_card.proofs.card.Card.skip_frames_among_next_dots.Goals as goal

pub loop-count-init : goal.loop-count-init
loop-count-init c = (refl, (c.dots_to_frame_end-count.ensures, omega arith))

pub loop-count-smaller : goal.loop-count-smaller
loop-count-smaller c =
    let some = (c.frame_takes_fewest_dots.ensures c.loop-count.self).some in
    omega (arith, some, c.loop-count.invariant.1.0)

pub loop-count-preserved : goal.loop-count-preserved
loop-count-preserved c = (
  past_frame c.restored_cards_behave_the_same.ensures c.loop-count.self c.skip_frame.new.self c.loop-count.left c.loop-count.count c.loop-count.invariant.1.0 (omega arith) c.skip_frame.ensures
      ∙ c.loop-count.invariant.0,
  (c.dots_to_frame_end-count-in-loop-count.ensures, omega (arith, c.loop-count.invariant.1.1)),
)

pub returns-clause-few : goal.returns-clause-few
returns-clause-few c = c.loop-count.invariant.1.1

pub returns-clause-frame : goal.returns-clause-frame
returns-clause-frame c = omega (arith, c.loop-count.invariant.1.0)

pub returns-clause-dots : goal.returns-clause-dots
returns-clause-dots c = c.loop-count.invariant.0
