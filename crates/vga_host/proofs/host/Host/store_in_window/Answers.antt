-- The bytes of a write are stored at the place of the address.
use Rattle.std.proofs.Common.{◌≡◌, ◌∙◌, ap, sym, subst, ℕ, IsTrue}
use Rattle.vga_planes.specs.Planes.{with_bytes_at_offset}
use Rattle.vga_bits.specs.Four.{Four, four_by_plane}
use Rattle.vga_host.specs.Host.{HostState}
use Rattle.vga_host.specs.Memory.Access.{IsAccess}
use Rattle.vga_host.specs.Memory.Address.{is_decoded, window_offset}
use Rattle.vga_host.specs.Memory.Write.{written_byte, after_put}
use Rattle.vga_host.proofs.RunLemmas.{planes_after}
use Rattle.vga_host.proofs.host.Host.store_in_window.Goals as goal

pub returns-clause-put : goal.returns-clause-put
returns-clause-put c misc address v decoded at stores =
    let h : HostState = record {
      memory = c.self.inside.planes;
      latches = c.self.inside.latch;
      seq = c.self.inside.seq.values;
      gfx = c.self.inside.gfx.values;
      seq_index = c.self.inside.seq_index;
      gfx_index = c.self.inside.gfx_index;
    } in
    let same : h ≡ c.args.self.now = c.self.view_is in
    let is : IsAccess c.args.access h = subst (λ x. IsAccess c.args.access x) (sym same) c.requires in
    let set = c.reached-set.result in
    let o = c.offset-offset.result in
    let after : Four ℕ → HostState = λ bytes. record h { memory = with_bytes_at_offset h.memory o bytes set } in
    let bytes : c.args.bytes ≡ four_by_plane (λ p. written_byte h v p) = stores ∙ ap (λ x. four_by_plane (λ p. written_byte x v p)) (sym same) in
    ap (λ m. let w : HostState = record h { memory = m } in w) c.store.ensures
    ∙ ap after bytes
    ∙ ap (λ m. let w : HostState = record h { memory = m } in w) (planes_after h misc address c.args.in_window o
    (subst (λ x. IsTrue (is_decoded x misc address)) (sym same) decoded) (at ∙ ap (λ x. window_offset x address) (sym same)) (c.offset-offset.ensures h is)
    set (four_by_plane (λ p. written_byte h v p)) (λ p less. c.reached-set.ensures h p is less))
    ∙ ap (λ x. after_put x address v) same
