-- The flip-flop is cleared at once, and the status is that of n dots on.
use Rattle.std.proofs.Common.{◌≡◌, ◌∙◌, ap, Ok}
use Rattle.vga_crtc.specs.Beam.{after_dots}
use Rattle.vga_crtc.specs.Status.{status}
use Rattle.vga_attr.specs.Attr.{AttrState}
use Rattle.vga_card.specs.Card.{CardState}
use Rattle.vga_card.specs.Cycles.{ReadResult}
use Rattle.vga_card.specs.Dots.{character_width, dots}
use Rattle.vga_card.proofs.OwedLemmas.{cleared, status_now}
use Rattle.vga_card.proofs.card.Card.read_status_with_dots_owed.Goals as goal

pub returns-clause-read : goal.returns-clause-read
returns-clause-read c = λ port reached.
    let a = c.self.inside in
    let card : CardState = record { host = a.host; crtc = a.crtc; attr = a.attr; dac = a.dac; misc = a.misc; drawn = a.canvas.dots } in
    let s = c.args.self.now in
    let n = c.args.n in
    let told : c.status_after-status.result ≡ status (after_dots s.crtc (character_width s) n) =
    c.status_after-status.ensures ∙ ap (λ k. status (after_dots a.crtc k n)) c.character_width.ensures.value
    ∙ ap (λ (x : CardState). status (after_dots x.crtc (character_width x) n)) c.self.view_is in
    ap (λ (x : AttrState). let now : ReadResult = (dots n (record card { attr = x }), Ok c.status_after-status.result) in now) c.to_index.ensures
    ∙ ap (λ (x : CardState). let now : ReadResult = (dots n (cleared x), Ok c.status_after-status.result) in now) c.self.view_is
    ∙ ap (λ v. let now : ReadResult = (dots n (cleared s), Ok v) in now) told
    ∙ status_now n s port reached
