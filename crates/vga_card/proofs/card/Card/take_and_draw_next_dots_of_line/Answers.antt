use Rattle.std.proofs.Common.{◌≡◌, ◌≤◌, ◌++◌, sym, subst, ap, ◌∙◌, List}
use Rattle.vga_host.specs.Sequencer.{character_width as host_width}
use Rattle.vga_crtc.specs.declared.beam.Beam.{Beam}
use Rattle.vga_crtc.specs.Crtc.{CrtcState}
use Rattle.vga_crtc.specs.Beam.{crtc_with_start_taken}
use Rattle.vga_crtc.specs.Raster.{IsWithinItsLine}
use Rattle.vga_dots.specs.Display.{DisplayState}
use Rattle.vga_card.specs.Picture.{Dot}
use Rattle.vga_card.specs.Card.{CardState}
use Rattle.vga_card.specs.Dots.{dots_unless_frame_start, dots, character_width}
use Rattle.vga_card.specs.Line.{display_dots_among_next_dots, display_with_start_taken, card_dots_to_line_end}
use Rattle.vga_card.specs.Valid.{IsLineDrawnToBeam}
use Rattle.vga_card.proofs.PlaceLemmas.{drawn_started}
use Rattle.vga_card.proofs.PartLemmas.{part_is, part_moves, inside_started, few_started, widths}
use Rattle.vga_card.proofs.card.Card.take_and_draw_next_dots_of_line.Goals as goal

pub draw_dots-requires-clause-place : goal.draw_dots-requires-clause-place
draw_dots-requires-clause-place c =
    rw (
      ap (λ (x : DisplayState). x.crtc) c.new-display.ensures,
      c.take_start.ensures.started,
      c.clear_at_first_dot.ensures.line,
      c.clear_at_first_dot.ensures.width,
      c.beam.ensures.value,
    ) (drawn_started c.start_is_taken_once.ensures.place c.self.inside.crtc 0 _ _ c.self.invariant.0)

pub draw_dots-requires-clause-inside : goal.draw_dots-requires-clause-inside
draw_dots-requires-clause-inside c =
    let here = subst (λ (x : CardState). IsWithinItsLine (character_width x) x.crtc.registers x.crtc.beam) (sym c.self.view_is) c.requires.inside in
    rw (c.new-display.ensures, c.take_start.ensures.started) (inside_started c.start_is_taken_once.ensures.place _ c.self.inside.crtc here)

pub draw_dots-requires-clause-few : goal.draw_dots-requires-clause-few
draw_dots-requires-clause-few c =
    let here = subst (λ (x : CardState). c.args.n ≤ card_dots_to_line_end x) (sym c.self.view_is) c.requires.few in
    rw (c.new-display.ensures, c.take_start.ensures.started) (few_started c.start_is_taken_once.ensures.place _ c.args.n c.self.inside.crtc here)

pub step_dots-requires-clause-inside : goal.step_dots-requires-clause-inside
step_dots-requires-clause-inside c =
    let here = subst (λ (x : CardState). IsWithinItsLine (character_width x) x.crtc.registers x.crtc.beam) (sym c.self.view_is) c.requires.inside in
    rw (c.take_start.ensures.started, c.character_width-width.ensures.value) (inside_started c.start_is_taken_once.ensures.place _ c.self.inside.crtc here)

pub step_dots-requires-clause-few : goal.step_dots-requires-clause-few
step_dots-requires-clause-few c =
    let here = subst (λ (x : CardState). c.args.n ≤ card_dots_to_line_end x) (sym c.self.view_is) c.requires.few in
    rw (c.take_start.ensures.started, c.character_width-width.ensures.value)
    (few_started c.start_is_taken_once.ensures.place _ c.args.n c.self.inside.crtc here)

pub invariant_of-self : goal.invariant_of-self
invariant_of-self c =
    let a = c.self.inside in
    let laws = c.dots_move_beam_in_line.ensures in
    let inside = subst (λ (x : CardState). IsWithinItsLine (character_width x) x.crtc.registers x.crtc.beam) (sym c.self.view_is) c.requires.inside in
    let few = subst (λ (x : CardState). c.args.n ≤ card_dots_to_line_end x) (sym c.self.view_is) c.requires.few in
    let started = c.start_is_taken_once.ensures.place in
    let moves = rw (c.take_start.ensures.started, c.character_width-width.ensures.value) at c.step_dots.ensures in
    let at : (x : CrtcState) → x ≡ crtc_with_start_taken a.crtc → IsLineDrawnToBeam x.beam c.args.n c.draw_dots.new.canvas.line c.draw_dots.new.canvas.width →
    IsLineDrawnToBeam (crtc_with_start_taken a.crtc).beam c.args.n c.draw_dots.new.canvas.line c.draw_dots.new.canvas.width =
    λ x e is. subst (λ (y : CrtcState). IsLineDrawnToBeam y.beam c.args.n c.draw_dots.new.canvas.line c.draw_dots.new.canvas.width) e is in
    let drawn = at c.new-display.result.crtc (ap (λ (x : DisplayState). x.crtc) c.new-display.ensures
    ∙ c.take_start.ensures.started) c.draw_dots.ensures.place in (
      part_moves started c.start_is_taken_once.ensures.dots laws.place laws.count c.line_ends_with_its_dots.ensures c.line_leads_to_next_line.ensures (host_width a.host) c.args.n
          (crtc_with_start_taken a.crtc) c.step_dots.new.self _ _ (widths a.host) (inside_started started _ a.crtc inside) (few_started started _ c.args.n a.crtc few)
          moves drawn,
      c.self.invariant.1,
    )

pub returns : goal.returns
returns c =
    let a = c.self.inside in
    let n = c.args.n in
    let laws = c.dots_move_beam_in_line.ensures in
    let old : CardState = record { host = a.host; crtc = a.crtc; attr = a.attr; dac = a.dac; misc = a.misc; drawn = a.canvas.dots } in
    let inside = subst (λ (x : CardState). IsWithinItsLine (character_width x) x.crtc.registers x.crtc.beam) (sym c.self.view_is) c.requires.inside in
    let few = subst (λ (x : CardState). n ≤ card_dots_to_line_end x) (sym c.self.view_is) c.requires.few in
    let draws = c.draw_dots.ensures.dots
    ∙ ap (λ (x : DisplayState). c.clear_at_first_dot.new.canvas.dots ++ display_dots_among_next_dots n x) c.new-display.ensures
    ∙ ap (λ (x : CrtcState). c.clear_at_first_dot.new.canvas.dots ++ display_dots_among_next_dots n (record { host = a.host; crtc = x; attr = a.attr; dac = a.dac }))
    c.take_start.ensures.started
    ∙ ap (λ (dots : List Dot). dots ++ display_dots_among_next_dots n (display_with_start_taken old)) (c.clear_at_first_dot.ensures.dots
    ∙ ap (λ (b : Beam). dots_unless_frame_start b a.canvas.dots) c.beam.ensures.value) in
    let moves = rw (c.take_start.ensures.started, c.character_width-width.ensures.value) at c.step_dots.ensures in
    part_is c.start_is_taken_once.ensures.place c.start_is_taken_once.ensures.dots laws.place laws.count c.frame_ends_with_its_dots.ensures
    n old c.step_dots.new.self c.draw_dots.new.canvas.dots c.requires.some inside few moves draws ∙ ap (dots n) c.self.view_is
