-- The run begins at the base's address, and has a step for each character and two more.
use Rattle.std.proofs.Common.{◌≡◌, ◌≤◌, ℕ, ◌+◌, ◌*◌, ◌%◌, sym, ap, subst, ◌∙◌}
use Rattle.vga_crtc.specs.Fields.{horizontal_display_end}
use Rattle.vga_crtc.specs.declared.beam.Beam.{Beam}
use Rattle.vga_dots.specs.declared.addressing.Addressing.{Addressing}
use Rattle.vga_dots.specs.Addressing.{addressing_of}
use Rattle.vga_dots.proofs.AddressingLemmas.{fetched_in_run}
use Rattle.vga_dots.proofs.addressing.offsets_fetched_on_line.Goals as goal

pub returns : goal.returns
returns c h a x k l =
    let crtc = c.args.crtc.now in
    let same : c.fields-registers.result.now ≡ crtc.registers = c.fields-registers.ensures in
    let last : c.horizontal_display_end.result ≡ horizontal_display_end crtc.registers = c.horizontal_display_end.ensures ∙ ap horizontal_display_end same in
    let step : c.new-step.result ≡ addressing_of crtc.registers = c.new-step.ensures ∙ ap addressing_of same in
    fetched_in_run h crtc a x k c.horizontal_display_end.result _ c.horizontal_display_end.type_inv (subst (λ (n : ℕ). x ≤ n) (sym last) l)
    (ap (λ (b : Beam). b.base * c.new-step.result.step % 65536) c.beam.ensures.value ∙ ap (λ (s : Addressing). crtc.beam.base * s.step % 65536) step)
    (ap (λ (s : Addressing). (c.horizontal_display_end.result + 2) * s.step) step)
