use Rattle.std.proofs.Common.{◌<◌, ◌≡◌, subst, length}
use Rattle.vga_planes.specs.Saved.{saved_memory, memory_from}
use Rattle.vga_host.specs.Host.{HostState}
use Rattle.vga_host.proofs.SavedLemmas.{host_is_saved, host_is_back}
use Rattle.vga_host.proofs.host.Host.restore_gives_what_was_saved.Goals as goal

pub returns-clause-saved : goal.returns-clause-saved
returns-clause-saved c =
    let is = c.self.view_is in
    host_is_saved c.args.self.now c.bounds.ensures
    (subst (λ (h : HostState). length (saved_memory h.memory) ≡ 262144) is c.restore_gives_what_was_saved.ensures.len)
    (subst (λ (h : HostState). h.seq_index < 8) is c.self.invariant.2)
    (subst (λ (h : HostState). h.gfx_index < 16) is c.self.invariant.3)

pub returns-clause-back : goal.returns-clause-back
returns-clause-back c =
    host_is_back c.args.self.now c.bounds.ensures
    (subst (λ (h : HostState). memory_from (saved_memory h.memory) ≡ h.memory) c.self.view_is c.restore_gives_what_was_saved.ensures.back)
