use Rattle.vga_crtc.proofs.Frames.{at_dot, at_place, past_start}
use Rattle.vga_crtc.proofs.laws.beam_after_n_dots_by_division.Goals as goal

pub returns-clause-by_number : goal.returns-clause-by_number
returns-clause-by_number c = at_dot

pub returns-clause-by_place : goal.returns-clause-by_place
returns-clause-by_place c = at_place

pub returns-clause-past_start : goal.returns-clause-past_start
returns-clause-past_start c = past_start
