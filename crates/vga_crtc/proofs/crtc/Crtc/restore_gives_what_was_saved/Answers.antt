use Rattle.std.proofs.Common.{◌<◌, subst}
use Rattle.vga_crtc.specs.Crtc.{CrtcState}
use Rattle.vga_crtc.proofs.SavedLemmas.{crtc_is_saved}
use Rattle.vga_crtc.proofs.crtc.Crtc.restore_gives_what_was_saved.Goals as goal

pub returns-clause-saved : goal.returns-clause-saved
returns-clause-saved c = crtc_is_saved c.args.self.now c.bounds.ensures (subst (λ (s : CrtcState). s.index < 32) c.self.view_is c.self.invariant.1)
