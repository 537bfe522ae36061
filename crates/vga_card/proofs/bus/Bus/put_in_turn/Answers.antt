use Rattle.std.proofs.Common.{◌≡◌, ◌∙◌, ap, ◌+◌}
use Rattle.vga_host.specs.Memory.Runs.{even_or_odd_byte}
use Rattle.vga_host.proofs.RunLemmas.{even_in_turn, odd_in_turn}
use Rattle.vga_card.specs.Bus.{AtAddress}
use Rattle.vga_card.proofs.CycleLemmas.{next_put}
use Rattle.vga_card.proofs.bus.Bus.put_in_turn.Goals as goal
use Rattle.vga_card.proofs.bus.Bus.put_in_turn.Goals.{then-i-eq0, else-i-eq0}

pub loop-i-preserved : goal.loop-i-preserved
loop-i-preserved g c =
    let m = g.Self.Bus.meaning in
    let byte : c.if-i-eq0.byte ≡ even_or_odd_byte c.args.even c.args.odd c.loop-i.i = elim c.if-i-eq0.branch [
      | then-i-eq0 w ↦ w.byte-is ∙ even_in_turn c.args.even c.args.odd c.loop-i.i w.if-i-eq0.true
      | else-i-eq0 w ↦ w.byte-is ∙ odd_in_turn c.args.even c.args.odd c.loop-i.i w.if-i-eq0.false
    ] in
    next_put m c.args.first (even_or_odd_byte c.args.even c.args.odd) c.loop-i.i c.args.n c.loop-i.self c.put.new.self _ c.loop-i-test.true
    (ap (λ p. p.0) c.put.ensures ∙ ap (λ v. (m.write c.loop-i.self (AtAddress (c.args.first + c.loop-i.i)) v).0) byte) c.loop-i.invariant
