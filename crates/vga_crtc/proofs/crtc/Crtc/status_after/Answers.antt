-- The status of a beam that has gone over dots of its line.
use Rattle.std.proofs.Common.{◌≤◌, sym, subst, ap, ◌∙◌}
use Rattle.vga_crtc.specs.Crtc.{CrtcState}
use Rattle.vga_crtc.specs.Beam.{after_dots}
use Rattle.vga_crtc.specs.Raster.{IsWithinItsLine, dots_to_line_end}
use Rattle.vga_crtc.specs.Status.{status}
use Rattle.vga_crtc.proofs.Parts.{part_taken}
use Rattle.vga_crtc.proofs.crtc.Crtc.status_after.Goals as goal

pub returns : goal.returns
unfolding status
returns c =
    let a = c.self.inside in
    let cw = c.args.cw in
    let n = c.args.n in
    let old : CrtcState = record { registers = a.registers; index = a.index; beam = a.beam } in
    let inside = subst (λ (s : CrtcState). IsWithinItsLine cw s.registers s.beam) (sym c.self.view_is) c.requires.inside in
    let few = subst (λ (s : CrtcState). n ≤ dots_to_line_end cw s.registers s.beam) (sym c.self.view_is) c.requires.few in
    c.status.ensures
    ∙ ap status (part_taken cw n old c.step_dots.new.self inside c.requires.some few c.step_dots.ensures.value ∙ ap (λ (s : CrtcState). after_dots s cw n) c.self.view_is)
