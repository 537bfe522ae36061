use Rattle.std.proofs.Common.{◌≡◌, ◌∙◌, ◌-◌, ℕ, ap, arith}
use Rattle.vga_card.specs.Bus.{card_meaning}
use Rattle.vga_card.specs.Transfers.{after_puts_last_first}
use Rattle.vga_card.proofs.TransferLemmas.{next_put_down}
use Rattle.vga_card.proofs.WindowLemmas.{puts_down_end}
use Rattle.vga_card.proofs.card.Card.fill_last_first.Goals as goal

pub loop-i-preserved : goal.loop-i-preserved
loop-i-preserved c =
    next_put_down card_meaning c.args.first (λ k. c.args.value) c.loop-i.i c.addresses_before_windows_end-kept.result c.loop-i.self c.put.new.self _ c.loop-i-test.true
    (ap (λ p. p.0) c.put.ensures) c.loop-i.invariant

pub returns : goal.returns
returns c =
    let before = c.args.self.now in
    let kept = c.addresses_before_windows_end-kept.result in
    let bounds = c.addresses_before_windows_end-kept.ensures in
    let none_left : 0 ≡ kept - c.loop-i.i = omega (arith, c.loop-i-test.false) in
    ap (λ (m : ℕ). after_puts_last_first card_meaning c.args.first (λ k. c.args.value) m c.loop-i.self) none_left
    ∙ c.loop-i.invariant ∙ puts_down_end c.args.first kept c.args.n (λ k. c.args.value) before bounds.few bounds.past
