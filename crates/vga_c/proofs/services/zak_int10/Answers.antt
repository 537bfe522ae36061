use Rattle.std.proofs.Common.{◌≡◌, ◌∙◌, subst}
use Rattle.bios_modes.specs.Valid.{IsValid}
use Rattle.vga_run.specs.declared.machine.Machine.{Machine}
use Rattle.vga_c.specs.Handle.{machine_after_owed_dots}
use Rattle.vga_c.proofs.services.zak_int10.Goals as goal

-- the machine that is called is the card's
pub returns-clause-bad : goal.returns-clause-bad
returns-clause-bad c = λ is_open.
    let same : c.as_mut-machine.result.now ≡ machine_after_owed_dots c.args.card.now = c.as_mut-machine.ensures.value ∙ c.take-held.ensures.machine in (
      c.give.ensures.open,
      λ bad.
          let left = c.call-status.ensures.bad (λ valid. bad (subst (λ (m : Machine). IsValid m.bda) same valid)) in
          (c.give.ensures.machine ∙ left.0 ∙ same, left.1),
    )
