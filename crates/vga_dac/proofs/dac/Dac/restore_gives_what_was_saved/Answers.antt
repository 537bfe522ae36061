use Rattle.std.proofs.Common.{◌<◌, subst}
use Rattle.vga_dac.specs.Dac.{DacState}
use Rattle.vga_dac.specs.Saved.{AreSixBitValues}
use Rattle.vga_dac.proofs.SavedLemmas.{dac_is_saved}
use Rattle.vga_dac.proofs.dac.Dac.restore_gives_what_was_saved.Goals as goal

pub returns-clause-saved : goal.returns-clause-saved
returns-clause-saved c =
    let is = c.self.view_is in
    dac_is_saved c.args.self.now c.bounds.ensures
    (subst (λ (d : DacState). AreSixBitValues d.reds) is c.self.invariant.0)
    (subst (λ (d : DacState). AreSixBitValues d.greens) is c.self.invariant.1)
    (subst (λ (d : DacState). AreSixBitValues d.blues) is c.self.invariant.2)
    (subst (λ (d : DacState). d.waiting_red < 64) is c.self.invariant.3)
    (subst (λ (d : DacState). d.waiting_green < 64) is c.self.invariant.4)
