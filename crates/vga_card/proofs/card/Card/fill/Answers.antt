-- The writes past the windows do nothing.
use Rattle.std.proofs.Common.{◌∙◌, arith}
use Rattle.vga_card.proofs.TransferLemmas.{one_in_turn}
use Rattle.vga_card.proofs.WindowLemmas.{puts_end}
use Rattle.vga_card.proofs.card.Card.fill.Goals as goal

pub returns : goal.returns
returns c =
    let before = c.args.self.now in
    let kept = c.addresses_before_windows_end.result in
    c.put_in_turn.ensures ∙ one_in_turn c.args.first c.args.value kept 0 before
    ∙ puts_end c.args.first kept c.args.n 0 (λ i. c.args.value) before c.addresses_before_windows_end.ensures.few
    (λ less. omega (arith, c.addresses_before_windows_end.ensures.past less))
