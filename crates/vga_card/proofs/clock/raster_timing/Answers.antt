use Rattle.std.proofs.Common.{◌≡◌, ◌*◌, refl, ap, ◌∙◌}
use Rattle.vga_host.specs.Sequencer.{is_clock_halved, character_width as host_width}
use Rattle.vga_crtc.specs.Beam.{characters, lines}
use Rattle.vga_crtc.specs.Raster.{dots_to_frame_end}
use Rattle.vga_card.specs.Dots.{character_width}
use Rattle.vga_card.specs.Clock.{clock_rate}
use Rattle.vga_card.proofs.ClockLemmas.{display_told, retrace_told}
use Rattle.vga_card.proofs.clock.raster_timing.Goals as goal

pub returns-clause-clock : goal.returns-clause-clock
returns-clause-clock c = λ card crtc host misc.
    let width : c.character_width-width.result ≡ character_width card = c.character_width-width.ensures.value ∙ ap host_width host in
    record {
      frame = c.dots_to_frame_end.ensures.value ∙ (λ j. dots_to_frame_end (width j) (crtc j).registers (crtc j).beam);
      display = display_told card c.dots_to_display_change.result c.character_width-width.result c.args.crtc.now width crtc
          c.dots_to_display_change.ensures.change;
      retrace = retrace_told card c.dots_to_retrace_change.result c.character_width-width.result c.args.crtc.now width crtc
          c.dots_to_retrace_change.ensures.change;
      line = (λ j. c.characters.ensures.value j * width j) ∙ ap (λ r. characters r * character_width card) (c.fields.ensures ∙ ap (λ x. x.registers) crtc);
      whole = refl;
      lines = c.lines-lines.ensures.value ∙ ap lines (c.fields-2.ensures ∙ ap (λ x. x.registers) crtc);
      rate = c.clock_rate.ensures ∙ ap clock_rate misc;
      halved = c.is_clock_halved.ensures ∙ ap is_clock_halved host;
    }
