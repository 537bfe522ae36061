-- The moves past the windows do nothing.
use Rattle.std.proofs.Common.{◌∙◌, ap, arith}
use Rattle.vga_host.specs.Host.{HostState}
use Rattle.vga_card.specs.Bus.{after_moves, card_meaning}
use Rattle.vga_card.specs.contracts.card.Card.{the_view}
use Rattle.vga_card.proofs.CycleLemmas.{card_moves, with_host}
use Rattle.vga_card.proofs.WindowLemmas.{moves_end}
use Rattle.vga_card.proofs.card.Card.move_bytes.Goals as goal

pub returns : goal.returns
returns c =
    let before = the_view c.self.inside in
    let from = c.args.from in
    let to = c.args.to in
    let kept = c.moves_before_windows_end.result in
    let past = c.moves_before_windows_end.ensures in
    ap (λ (h : HostState). with_host before h) c.move_bytes.ensures ∙ card_moves from to kept 0 before
    ∙ moves_end from to kept c.args.n 0 before past.few (λ less. omega (arith, past.past_from less)) (λ less. omega (arith, past.past_to less))
    ∙ ap (after_moves card_meaning from to c.args.n 0) c.self.view_is
