-- The beam comes to the next frame, and the canvas is empty there.
use Rattle.std.proofs.Common.{◌≡◌, ◌∙◌, ap, List, []}
use Rattle.vga_card.specs.Picture.{Dot}
use Rattle.vga_card.specs.Card.{CardState}
use Rattle.vga_card.specs.Dots.{character_width}
use Rattle.vga_card.specs.Frames.{frame}
use Rattle.vga_card.specs.FreshCanvas.{without_dots_of_ended_frame}
use Rattle.vga_card.proofs.FrameLemmas.{wide}
use Rattle.vga_card.proofs.SkipLemmas.{skipped}
use Rattle.vga_card.proofs.card.Card.skip_frame.Goals as goal

pub returns : goal.returns
returns c =
    let a = c.self.inside in
    let card : CardState = record { host = a.host; crtc = a.crtc; attr = a.attr; dac = a.dac; misc = a.misc; drawn = a.canvas.dots } in
    let moved = c.step_frame.new.self in
    let done : record card { crtc = moved; drawn = [] } ≡ without_dots_of_ended_frame (frame card) =
    skipped card moved (c.frame_takes_fewest_dots.ensures card) (c.step_frame.ensures (character_width card) (wide _)) in
    ap (λ (x : List Dot). record card { crtc = moved; drawn = x }) (ap (λ x. x.dots) c.clear.ensures)
    ∙ done ∙ ap (λ x. without_dots_of_ended_frame (frame x)) c.self.view_is
