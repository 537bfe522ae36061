use Rattle.std.proofs.Common.{ap, length}
use Rattle.std.specs.Prelude.{slice_index}
use Rattle.vga_card.specs.Bus.{card_meaning}
use Rattle.vga_card.proofs.TransferLemmas.{next_put_down}
use Rattle.vga_card.proofs.card.Card.put_slice_last_first.Goals as goal

pub loop-i-preserved : goal.loop-i-preserved
loop-i-preserved c =
    next_put_down card_meaning c.args.first (slice_index c.args.bytes.now) c.loop-i.i (length c.args.bytes.now) c.loop-i.self c.put.new.self _
    c.loop-i-test.true (ap (λ p. p.0) c.put.ensures) c.loop-i.invariant
