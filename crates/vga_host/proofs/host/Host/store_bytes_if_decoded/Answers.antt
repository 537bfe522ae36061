-- A write by what the registers say is a write.
use Rattle.std.proofs.Common.{◌≡◌, ◌∙◌, ap, sym, subst}
use Rattle.vga_host.specs.Host.{HostState}
use Rattle.vga_host.specs.Memory.Runs.{after_put_of_plane_bytes}
use Rattle.vga_host.specs.Memory.Access.{IsAccess}
use Rattle.vga_host.proofs.RunLemmas.{put_at}
use Rattle.vga_host.proofs.host.Host.store_bytes_if_decoded.Goals as goal

pub returns-in-Some : goal.returns-in-Some
returns-in-Some c =
    let h : HostState = record {
      memory = c.self.inside.planes;
      latches = c.self.inside.latch;
      seq = c.self.inside.seq.values;
      gfx = c.self.inside.gfx.values;
      seq_index = c.self.inside.seq_index;
      gfx_index = c.self.inside.gfx_index;
    } in
    let same : h ≡ c.args.self.now = c.self.view_is in
    let is : IsAccess c.args.access h = subst (λ x. IsAccess c.args.access x) (sym same) c.requires.access in
    let d = c.in-Some.ensures h is in
    let set = c.reached.result in
    ap (λ m. let after : HostState = record h { memory = m } in after) c.store.ensures
    ∙ put_at h c.args.misc c.args.address c.in-Some.in_window c.offset.result d.0 d.1 (c.offset.ensures h is) set c.args.bytes (λ p less. c.reached.ensures h p is less)
    ∙ ap (λ x. after_put_of_plane_bytes x c.args.misc c.args.address c.args.bytes) same
