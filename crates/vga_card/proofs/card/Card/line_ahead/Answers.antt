-- The dots up to the line's end fetch what its characters fetch.
use Rattle.std.proofs.Common.{◌≡◌, ◌≤◌, ℕ, ap, subst, ◌∙◌, arith}
use Rattle.vga_crtc.specs.Beam.{is_first_dot_of_frame}
use Rattle.vga_crtc.specs.Raster.{IsFrameStart, IsWithinItsLine, dots_to_line_end}
use Rattle.vga_card.specs.declared.line_ahead.LineAhead.{LineAhead}
use Rattle.vga_card.specs.Card.{CardState}
use Rattle.vga_card.specs.Dots.{character_width}
use Rattle.vga_card.specs.Line.{card_dots_to_line_end}
use Rattle.vga_card.specs.LineAhead.{IsLineAhead}
use Rattle.vga_card.proofs.OwedLemmas.{not_both}
use Rattle.vga_card.proofs.LineAheadLemmas.{line_to_its_end}
use Rattle.vga_card.proofs.card.Card.line_ahead.Goals as goal

pub returns : goal.returns
returns c =
    let a = c.self.inside in
    let card : CardState = record { host = a.host; crtc = a.crtc; attr = a.attr; dac = a.dac; misc = a.misc; drawn = a.canvas.dots } in
    let line : LineAhead = record { dots = c.dots_to_line_end.result; fetched = c.offsets_fetched_on_line.result } in
    let laws = c.dots_move_beam_in_line.ensures in
    let away : ¬ IsFrameStart a.crtc.beam = λ start. not_both (is_first_dot_of_frame a.crtc.beam) ((c.start_is_taken_once.ensures.there a.crtc.beam).1 start)
    (c.if-is_first_dot_of_frame.ensures ∙ ap is_first_dot_of_frame c.beam.ensures.value) in
    let inside : IsWithinItsLine (character_width card) a.crtc.registers a.crtc.beam =
    subst (λ (w : ℕ). IsWithinItsLine w a.crtc.registers a.crtc.beam) c.character_width-width.ensures.value (c.is_in_line.ensures.0 c.if-not-is_in_line.false) in
    let all : c.dots_to_line_end.result ≡ card_dots_to_line_end card =
    c.dots_to_line_end.ensures.value ∙ ap (λ (w : ℕ). dots_to_line_end w a.crtc.registers a.crtc.beam) c.character_width-width.ensures.value in
    let few : c.dots_to_line_end.result ≤ card_dots_to_line_end card = omega (arith, all) in
    subst (λ (x : CardState). IsLineAhead line x) c.self.view_is
    (line_to_its_end c.start_is_taken_once.ensures.elsewhere laws.place laws.count line card away inside few c.dots_to_line_end.ensures.at_most c.offsets_fetched_on_line.ensures)

pub returns-then-is_first_dot_of_frame : goal.returns-then-is_first_dot_of_frame
returns-then-is_first_dot_of_frame c = c.unknown.ensures c.args.self.now
