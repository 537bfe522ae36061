use Rattle.std.proofs.Common.{◌≡◌, ◌∙◌, ◌+◌, ◌-◌, ℕ, ap, arith}
use Rattle.vga_card.specs.Cycles.{put_cycle}
use Rattle.vga_card.specs.Bus.{card_meaning}
use Rattle.vga_card.specs.Transfers.{after_moves_last_first}
use Rattle.vga_card.proofs.TransferLemmas.{next_move_down}
use Rattle.vga_card.proofs.WindowLemmas.{moves_down_end}
use Rattle.vga_card.proofs.card.Card.move_bytes_last_first.Goals as goal

pub loop-i-preserved : goal.loop-i-preserved
loop-i-preserved c =
    let to = c.args.to + (c.moves_before_windows_end-kept.result - 1 - c.loop-i.i) in
    next_move_down card_meaning c.args.from c.args.to c.loop-i.i c.moves_before_windows_end-kept.result c.loop-i.self c.put.new.self _ c.loop-i-test.true
    (ap (λ p. p.0) c.put.ensures ∙ (λ j. (put_cycle (c.get_or_ff-byte.ensures.after j) to (c.get_or_ff-byte.ensures.byte j)).0)) c.loop-i.invariant

pub returns : goal.returns
returns c =
    let from = c.args.from in
    let to = c.args.to in
    let kept = c.moves_before_windows_end-kept.result in
    let bounds = c.moves_before_windows_end-kept.ensures in
    let none_left : 0 ≡ kept - c.loop-i.i = omega (arith, c.loop-i-test.false) in
    ap (λ (m : ℕ). after_moves_last_first card_meaning from to m c.loop-i.self) none_left
    ∙ c.loop-i.invariant ∙ moves_down_end from to kept c.args.n c.args.self.now bounds.few bounds.past_from bounds.past_to
