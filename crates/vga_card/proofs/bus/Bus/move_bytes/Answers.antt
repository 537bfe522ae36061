use Rattle.std.proofs.Common.{◌≡◌, ◌∙◌, ap, sym, ◌+◌}
use Rattle.vga_card.specs.Bus.{AtAddress, byte_or_ff}
use Rattle.vga_card.proofs.CycleLemmas.{next_move}
use Rattle.vga_card.proofs.bus.Bus.move_bytes.Goals as goal
use Rattle.vga_card.proofs.bus.Bus.move_bytes.Goals.{in-Ok, in-Err}

pub loop-i-preserved : goal.loop-i-preserved
loop-i-preserved g c =
    let m = g.Self.Bus.meaning in
    let byte : c.match-get.byte ≡ byte_or_ff c.get.result = elim c.match-get.branch [
      | in-Ok w ↦ w.byte-is ∙ ap byte_or_ff (sym w.in-Ok.is)
      | in-Err w ↦ w.byte-is ∙ ap byte_or_ff (sym w.in-Err.is)
    ] in
    next_move m c.args.from c.args.to c.loop-i.i c.args.n c.loop-i.self c.put.new.self _ c.loop-i-test.true
    (ap (λ p. p.0) c.put.ensures
    ∙ ap (λ v. (m.write c.get.new.self (AtAddress (c.args.to + c.loop-i.i)) v).0) byte
    ∙ ap (λ r. (m.write r.0 (AtAddress (c.args.to + c.loop-i.i)) (byte_or_ff r.1)).0) c.get.ensures) c.loop-i.invariant
