-- A load by what the registers say is a read.
use Rattle.std.proofs.Common.{◌≡◌, ◌∙◌, ap, sym, subst}
use Rattle.vga_host.specs.Host.{HostState}
use Rattle.vga_host.specs.Memory.Runs.{after_get_if_decoded}
use Rattle.vga_host.specs.Memory.Access.{IsAccess}
use Rattle.vga_host.proofs.RunLemmas.{get_at}
use Rattle.vga_host.proofs.host.Host.load_latches_if_decoded.Goals as goal

pub returns-in-Some : goal.returns-in-Some
returns-in-Some c =
    let h : HostState = record {
      memory = c.self.inside.planes;
      latches = c.self.inside.latch;
      seq = c.self.inside.seq.values;
      gfx = c.self.inside.gfx.values;
      seq_index = c.self.inside.seq_index;
      gfx_index = c.self.inside.gfx_index;
    } in
    let same : h ≡ c.args.self.now = c.self.view_is in
    let is : IsAccess c.args.access h = subst (λ x. IsAccess c.args.access x) (sym same) c.requires.access in
    let d = c.in-Some.ensures h is in
    ap (λ l. let after : HostState = record h { latches = l } in after) c.load-self-inside.ensures
    ∙ get_at h c.args.misc c.args.address c.in-Some.in_window c.offset.result d.0 d.1 (c.offset.ensures h is)
    ∙ ap (λ x. after_get_if_decoded x c.args.misc c.args.address) same
