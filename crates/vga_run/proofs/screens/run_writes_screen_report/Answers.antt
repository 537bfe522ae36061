use Rattle.vga_run.proofs.ScreenLemmas.{reports_screens}
use Rattle.vga_run.proofs.screens.run_writes_screen_report.Goals as goal

pub returns : goal.returns
returns c = reports_screens (record {
  first_card = c.cycles_and_dots_keep_bounds.ensures.first;
  first_data = c.calls_keep_bounds.ensures.first;
  dots = c.cycles_and_dots_keep_bounds.ensures.dots;
  card = c.calls_keep_bounds.ensures.card;
  bda = c.calls_keep_bounds.ensures.bda;
  served = c.calls_lead_to_screens.ensures.served;
  table = c.calls_lead_to_screens.ensures.table;
  loaded = c.calls_lead_to_screens.ensures.loaded;
  unknown = c.calls_lead_to_screens.ensures.unknown;
  no_mode = c.calls_lead_to_screens.ensures.mode;
  fresh = c.mode_set_shows_fresh_screen.ensures;
  framed = c.frame_draws_screen.ensures;
})
