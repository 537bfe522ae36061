use Rattle.std.proofs.Common.{rules, ◌∙◌, ◌+◌, ◌-◌, length, sym, subst}
use Rattle.vga_card.specs.Card.{CardState}
use Rattle.vga_card.specs.Bus.{card_meaning}
use Rattle.vga_card.specs.Transfers.{byte_at_or_ff}
use Rattle.vga_card.proofs.TransferLemmas.{IsReadOnly, read_only, read_on, byte_over, next_get_down, byte_set_down}
use Rattle.vga_card.proofs.card.Card.get_slice_last_first.Goals as goal

pub loop-i-preserved : goal.loop-i-preserved
loop-i-preserved c =
    let h : CardState = c.args.self.now in
    let s : CardState = c.loop-i.self in
    let n = length c.args.bytes.now in
    let i = c.loop-i.i in
    let address = c.args.first + (n - 1 - i) in
    let kept = c.loop-i.invariant in
    let now = c.get_or_ff.ensures.after in (
      subst (IsReadOnly h) (sym now) (read_on h s _ kept.0 (read_only s address)),
      next_get_down card_meaning c.args.first i n s _ _ c.loop-i-test.true now kept.1,
      search rules,
      λ k from below. byte_set_down c.loop-i.bytes n i k c.get_or_ff.result (λ j. byte_at_or_ff h (c.args.first + j)) c.loop-i-test.true kept.2 from below kept.3
          (c.get_or_ff.ensures.byte ∙ byte_over h s address kept.0),
    )
