-- The beam is that of n dots on, and the other registers are the same.
use Rattle.std.proofs.Common.{◌≡◌, ◌∙◌, sym, ap}
use Rattle.vga_crtc.specs.Beam.{after_dots}
use Rattle.vga_card.specs.Card.{CardState}
use Rattle.vga_card.specs.Dots.{character_width, dots}
use Rattle.vga_card.proofs.card.Card.clock_after_dots.Goals as goal

pub returns-clause-clock : goal.returns-clause-clock
returns-clause-clock c =
    let a = c.self.inside in
    let s = c.args.self.now in
    let n = c.args.n in
    let moved = c.dots_change_only_beam_and_picture.ensures n s in
    let crtc : c.after_dots-crtc.result ≡ after_dots s.crtc (character_width s) n =
    c.after_dots-crtc.ensures ∙ ap (λ k. after_dots a.crtc k n) c.character_width.ensures.value
    ∙ ap (λ (x : CardState). after_dots x.crtc (character_width x) n) c.self.view_is in
    c.raster_timing.ensures.clock (dots n s)
    (crtc ∙ sym (ap (λ (x : CardState). x.crtc) moved))
    (ap (λ (x : CardState). x.host) c.self.view_is ∙ sym (ap (λ (x : CardState). x.host) moved))
    (ap (λ (x : CardState). x.misc) c.self.view_is ∙ sym (ap (λ (x : CardState). x.misc) moved))
