use Rattle.std.proofs.Common.{◌≡◌, ◌≤◌, ◌++◌, sym, subst, ap, ◌∙◌, List}
use Rattle.std.specs.Prelude.{IfSome}
use Rattle.std.proofs.lemmas.Option.{IfSome_then}
use Rattle.vga_crtc.specs.declared.beam.Beam.{Beam}
use Rattle.vga_crtc.specs.Crtc.{CrtcState}
use Rattle.vga_crtc.specs.Raster.{IsLineStart}
use Rattle.vga_dots.specs.Display.{DisplayState}
use Rattle.vga_card.specs.Picture.{Dot}
use Rattle.vga_card.specs.Card.{CardState}
use Rattle.vga_card.specs.Dots.{dots_unless_frame_start, dots}
use Rattle.vga_card.specs.Line.{displayed_line_dots, display_with_start_taken, card_dots_to_line_end}
use Rattle.vga_card.proofs.PlaceLemmas.{drawn_started}
use Rattle.vga_card.proofs.LineLemmas.{line_is, line_moves, started_start}
use Rattle.vga_card.specs.Repeat.{EndsWithLine}
use Rattle.vga_card.proofs.RepeatLemmas.{still_ends, line_drawn}
use Rattle.vga_card.proofs.card.Card.take_line.Goals as goal

pub add_row-requires-clause-place : goal.add_row-requires-clause-place
add_row-requires-clause-place c =
    rw (
      ap (λ (x : DisplayState). x.crtc) c.new-display.ensures,
      c.take_start.ensures.started,
      c.clear_at_first_dot.ensures.line,
      c.clear_at_first_dot.ensures.width,
      c.beam.ensures.value,
    ) (drawn_started c.start_is_taken_once.ensures.place c.self.inside.crtc 0 _ _ c.self.invariant.0)

pub add_row-requires-clause-start : goal.add_row-requires-clause-start
add_row-requires-clause-start c =
    let here = subst (λ (x : CardState). IsLineStart x.crtc.beam) (sym c.self.view_is) c.requires.start in
    rw (ap (λ (x : DisplayState). x.crtc) c.new-display.ensures, c.take_start.ensures.started)
    (started_start c.start_is_taken_once.ensures.place c.self.inside.crtc here)

pub add_row-requires-clause-before : goal.add_row-requires-clause-before
add_row-requires-clause-before c =
    let a = c.self.inside in
    let old : CardState = record { host = a.host; crtc = a.crtc; attr = a.attr; dac = a.dac; misc = a.misc; drawn = a.canvas.dots } in
    let d = display_with_start_taken old in
    let ends = subst (λ (x : CardState). IfSome c.args.before (EndsWithLine (display_with_start_taken x) x.drawn)) (sym c.self.view_is) c.requires.before in
    let shows : c.new-display.result ≡ d = c.new-display.ensures
    ∙ ap (λ (x : CrtcState). record { host = a.host; crtc = x; attr = a.attr; dac = a.dac }) c.take_start.ensures.started in
    let dots : c.clear_at_first_dot.new.canvas.dots ≡ dots_unless_frame_start a.crtc.beam a.canvas.dots = c.clear_at_first_dot.ensures.dots
    ∙ ap (λ (b : Beam). dots_unless_frame_start b a.canvas.dots) c.beam.ensures.value in
    rw (shows, dots) (IfSome_then c.args.before ends (λ b is later. still_ends c.start_is_taken_once.ensures.place d a.crtc a.canvas.dots b later is))

pub invariant_of-self : goal.invariant_of-self
invariant_of-self c =
    let below = subst (λ (x : DisplayState). c.add_row.new.canvas.line ≤ x.crtc.beam.line) c.new-display.ensures c.add_row.ensures.below in (
      line_moves c.start_is_taken_once.ensures.place c.line_leads_to_next_line.ensures _ c.take_start.new.self c.step_line.new.self _ _ c.step_line.ensures below,
      c.self.invariant.1,
    )

pub returns-clause-by_dots : goal.returns-clause-by_dots
returns-clause-by_dots c =
    let a = c.self.inside in
    let old : CardState = record { host = a.host; crtc = a.crtc; attr = a.attr; dac = a.dac; misc = a.misc; drawn = a.canvas.dots } in
    let here = subst (λ (x : CardState). IsLineStart x.crtc.beam) (sym c.self.view_is) c.requires.start in
    let draws = c.add_row.ensures.dots
    ∙ ap (λ (x : DisplayState). c.clear_at_first_dot.new.canvas.dots ++ displayed_line_dots x) c.new-display.ensures
    ∙ ap (λ (x : CrtcState). c.clear_at_first_dot.new.canvas.dots ++ displayed_line_dots (record { host = a.host; crtc = x; attr = a.attr; dac = a.dac }))
    c.take_start.ensures.started
    ∙ ap (λ (dots : List Dot). dots ++ displayed_line_dots (display_with_start_taken old)) (c.clear_at_first_dot.ensures.dots
    ∙ ap (λ (b : Beam). dots_unless_frame_start b a.canvas.dots) c.beam.ensures.value) in
    let moves = rw (c.take_start.ensures.started, c.character_width-width.ensures.value) at c.step_line.ensures in
    line_is c.start_is_taken_once.ensures.place c.start_is_taken_once.ensures.dots c.beam_place_in_line.ensures.place c.beam_place_in_line.ensures.count
    c.frame_ends_with_its_dots.ensures
    old c.step_line.new.self c.add_row.new.canvas.dots here moves draws ∙ ap (λ (x : CardState). dots (card_dots_to_line_end x) x) c.self.view_is

pub returns-clause-ends : goal.returns-clause-ends
returns-clause-ends c =
    let a = c.self.inside in
    let draws = c.add_row.ensures.dots ∙ ap (λ (x : DisplayState). c.clear_at_first_dot.new.canvas.dots ++ displayed_line_dots x) c.new-display.ensures in
    line_drawn c.character_width-width.result a.host a.attr a.dac c.take_start.new.self c.step_line.new.self c.clear_at_first_dot.new.canvas.dots
    c.add_row.new.canvas.dots c.beam-beam.result c.step_line.ensures
    (c.beam-beam.ensures.value ∙ ap (λ (x : DisplayState). x.crtc.beam) c.new-display.ensures) draws
