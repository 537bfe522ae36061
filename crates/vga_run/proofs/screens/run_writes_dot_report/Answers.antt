use Rattle.vga_run.proofs.DotLemmas.{reports_dots}
use Rattle.vga_run.proofs.screens.run_writes_dot_report.Goals as goal

pub returns : goal.returns
returns c = reports_dots (record {
  screens = record {
    first_card = c.cycles_and_dots_keep_bounds.ensures.first;
    first_data = c.calls_keep_bounds.ensures.first;
    dots = c.cycles_and_dots_keep_bounds.ensures.dots;
    card = c.calls_keep_bounds.ensures.card;
    bda = c.calls_keep_bounds.ensures.bda;
    served = c.calls_lead_to_screens.ensures.served;
    table = c.calls_lead_to_screens.ensures.table;
    loaded = c.calls_lead_to_screens.ensures.loaded;
    unknown = c.calls_lead_to_screens.ensures.unknown;
    no_mode = c.calls_lead_to_screens.ensures.mode;
    fresh = c.mode_set_shows_fresh_screen.ensures;
    framed = c.frame_draws_screen.ensures;
  };
  served = c.calls_follow_screens.ensures.served;
  loads = c.calls_follow_screens.ensures.loaded;
  table = c.calls_follow_screens.ensures.table;
  begins = c.dots_follow_screens.ensures.begins;
  starts = c.dots_follow_screens.ensures.starts;
  dots_follow = c.dots_follow_screens.ensures.dots;
  frame_follows = c.dots_follow_screens.ensures.frame;
})
