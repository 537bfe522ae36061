use Rattle.std.proofs.Common.{arith, subst}
use Rattle.vga_script.specs.declared.step.Step.TheVariants.{Frame}
use Rattle.vga_run.specs.Step.{answer_to}
use Rattle.vga_c.specs.Forms.{HasPictureInForm}
use Rattle.vga_c.specs.declared.forms.Form.{Form}
use Rattle.vga_c.proofs.updates.update_frame.Goals as goal

pub returns-clause-picture : goal.returns-clause-picture
returns-clause-picture c = (
  λ few. (
    c.update_frame_in_form.ensures.after,
    subst (λ (form : Form). HasPictureInForm form (answer_to c.args.machine.now Frame) c.args.pitch c.args.picture.now c.update_frame_in_form.new.picture
        c.args.pixels.now c.update_frame_in_form.new.pixels c.update_frame_in_form.result) c.form_of-form.ensures.value c.update_frame_in_form.ensures.picture,
  ),
  λ past. absurd (omega (arith, past, c.if-flags-ge4.false)),
)
