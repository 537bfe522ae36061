-- What is kept beside the registers is what they say.
use Rattle.std.proofs.Common.{subst}
use Rattle.vga_host.specs.Host.{HostState}
use Rattle.vga_host.specs.Memory.Access.{IsAccess}
use Rattle.vga_host.proofs.host.Host.access.Goals as goal

pub returns-clause-access : goal.returns-clause-access
returns-clause-access c = subst (λ (h : HostState). IsAccess c.self.inside.access h) c.self.view_is (c.self.invariant.4 _ _ _ _)

pub returns-clause-small : goal.returns-clause-small
returns-clause-small c = let h = c.args.self.now in (c.self.invariant.4 h.memory h.latches 0 0).small
