use Rattle.std.proofs.Common.{◌∙◌, ap, arith}
use Rattle.bios_modes.specs.Palette.{palette_entry}
use Rattle.bios_services.specs.Plan.{run}
use Rattle.bios_services.specs.ModeSet.{write_dac_entry_plan}
use Rattle.bios_services.proofs.PlanRuns.{next_turn}
use Rattle.bios_services.proofs.mode_set.write_mask_and_palette.Goals as goal

pub loop-i-preserved : goal.loop-i-preserved
loop-i-preserved g c =
    next_turn g.B.Bus.meaning (λ i. write_dac_entry_plan (palette_entry c.args.palette i)) c.loop-i.i c.args.n c.loop-i.bus c.write_colour.new.bus _ (omega arith)
    (c.write_colour.ensures ∙ ap (λ colour. (run g.B.Bus.meaning (write_dac_entry_plan colour) c.loop-i.bus).0) c.entry.ensures) c.loop-i.invariant
