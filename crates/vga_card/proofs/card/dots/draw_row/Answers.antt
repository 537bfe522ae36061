use Rattle.std.proofs.Common.{◌++◌, refl, sym, ap, ◌∙◌}
use Rattle.std.proofs.lemmas.List.{append-nil}
use Rattle.vga_host.specs.Sequencer.{character_width as host_width}
use Rattle.vga_crtc.specs.Crtc.{CrtcState}
use Rattle.vga_crtc.specs.Status.{is_display}
use Rattle.vga_card.proofs.FrameLemmas.{wide}
use Rattle.vga_card.proofs.RowLemmas.{hidden_line, is_hidden}
use Rattle.vga_card.proofs.card.dots.draw_row.Goals as goal

pub returns-else-is_display-clause-dots : goal.returns-else-is_display-clause-dots
returns-else-is_display-clause-dots c =
    let d = c.args.display.now in
    let old = c.args.canvas.now.dots in
    let past = is_hidden d.crtc.registers d.crtc.beam c.requires.start.character (ap (λ (k : CrtcState). is_display k.registers k.beam)
    (sym c.crtc-crtc.ensures) ∙ sym c.is_display.ensures.value ∙ c.if-is_display.false) in
    sym (ap (λ x. old ++ x) (hidden_line d (host_width d.host) refl (wide _) past) ∙ append-nil old)
