-- A write outside of what the line ahead may fetch is not seen.
use Rattle.std.proofs.Common.{◌≡◌, ◌≤◌, sym, ap, subst, ◌∙◌, arith, rules, false}
use Rattle.vga_host.specs.OffsetRun.{is_in_run}
use Rattle.vga_host.specs.Memory.Address.{window_offset}
use Rattle.vga_host.specs.Memory.Write.{memory_after_put}
use Rattle.vga_card.specs.Card.{CardState}
use Rattle.vga_card.specs.LineAhead.{IsLineAhead}
use Rattle.vga_card.specs.Owed.{DotsSeeSameMemory}
use Rattle.vga_card.proofs.LineAheadLemmas.{line_sees_alike}
use Rattle.vga_card.proofs.card.Card.is_write_unseen.Goals as goal

pub returns-in-Some : goal.returns-in-Some
returns-in-Some c test v =
    let a = c.self.inside in
    let card : CardState = record { host = a.host; crtc = a.crtc; attr = a.attr; dac = a.dac; misc = a.misc; drawn = a.canvas.dots } in
    let line = c.args.line in
    let outside : c.contains.result ≡ false = search rules in
    let few : c.args.n ≤ line.dots = omega (arith, c.if-n-line.false) in
    subst (λ (x : CardState). DotsSeeSameMemory c.args.n x (memory_after_put x.host (window_offset x.host c.args.address) v)) c.self.view_is
    (line_sees_alike line c.args.n card (window_offset a.host c.args.address) v (subst (λ (x : CardState). IsLineAhead line x) (sym c.self.view_is) c.requires) few
    (ap (is_in_run line.fetched) (sym c.in-Some.ensures.offset) ∙ sym c.contains.ensures ∙ outside) c.in-Some.ensures.beside)
