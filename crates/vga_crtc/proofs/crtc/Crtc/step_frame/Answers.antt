-- The dots of the frame, taken at once.
use Rattle.std.proofs.Common.{◌≡◌, sym, ap, subst, ◌∙◌}
use Rattle.vga_crtc.specs.declared.beam.Beam.{Beam}
use Rattle.vga_crtc.specs.Crtc.{CrtcState}
use Rattle.vga_crtc.specs.Beam.{after_dots}
use Rattle.vga_crtc.specs.Raster.{dots_to_frame_end}
use Rattle.vga_crtc.proofs.Ends.{frame_ends}
use Rattle.vga_crtc.proofs.crtc.Crtc.step_frame.Goals as goal

pub returns : goal.returns
unfolding after_dots
returns c = λ cw some.
    let a = c.self.inside in
    let old : CrtcState = record { registers = a.registers; index = a.index; beam = a.beam } in
    let new : CrtcState = record old { beam = c.first_dot_of_frame-self-inside.result } in
    let there : new ≡ after_dots old cw (dots_to_frame_end cw old.registers old.beam) =
    ap (λ (b : Beam). record old { beam = b }) (c.first_dot_of_frame-self-inside.ensures ∙ sym (frame_ends cw old.registers old.beam some).next) in
    subst (λ (s : CrtcState). new ≡ after_dots s cw (dots_to_frame_end cw s.registers s.beam)) c.self.view_is there
