-- The bytes of two writes are stored at the places of their addresses.
use Rattle.std.proofs.Common.{◌≡◌, ◌∙◌, ◌+◌, ap, sym, subst, IsTrue}
use Rattle.vga_planes.specs.Planes.{with_bytes_at_offset}
use Rattle.vga_bits.specs.Four.{four_by_plane}
use Rattle.vga_host.specs.Host.{HostState}
use Rattle.vga_host.specs.Memory.Access.{IsAccess}
use Rattle.vga_host.specs.Memory.Address.{is_decoded, window_offset}
use Rattle.vga_host.specs.Memory.Write.{written_byte, after_put}
use Rattle.vga_host.proofs.RunLemmas.{planes_after, written_after}
use Rattle.vga_host.proofs.host.Host.store_word_in_window.Goals as goal

pub returns : goal.returns
returns c misc address v w decoded decoded-next at at-next stores stores-next =
    let h : HostState = record {
      memory = c.self.inside.planes;
      latches = c.self.inside.latch;
      seq = c.self.inside.seq.values;
      gfx = c.self.inside.gfx.values;
      seq_index = c.self.inside.seq_index;
      gfx_index = c.self.inside.gfx_index;
    } in
    let same : h ≡ c.args.self.now = c.self.view_is in
    let is : IsAccess c.args.access h = subst (λ x. IsAccess c.args.access x) (sym same) c.requires in
    let first = c.offset.result in
    let second = c.offset-2.result in
    let set = c.reached.result in
    let next-set = c.reached-2.result in
    let between : HostState = after_put h address v in
    let low : c.args.low ≡ four_by_plane (λ p. written_byte h v p) = stores ∙ ap (λ x. four_by_plane (λ p. written_byte x v p)) (sym same) in
    let high : c.args.high ≡ four_by_plane (λ p. written_byte between w p) =
    written_after c.args.high h address v w (stores-next ∙ ap (λ x. four_by_plane (λ p. written_byte x w p)) (sym same)) in
    let one = planes_after h misc address c.args.first first
    (subst (λ x. IsTrue (is_decoded x misc address)) (sym same) decoded) (at ∙ ap (λ x. window_offset x address) (sym same)) (c.offset.ensures h is)
    set (four_by_plane (λ p. written_byte h v p)) (λ p less. c.reached.ensures h p is less) in
    let two = planes_after between misc (address + 1) c.args.second second
    (subst (λ x. IsTrue (is_decoded x misc (address + 1))) (sym same) decoded-next) (at-next ∙ ap (λ x. window_offset x (address + 1)) (sym same)) (c.offset-2.ensures h is)
    next-set (four_by_plane (λ p. written_byte between w p)) (λ p less. c.reached-2.ensures h p is less) in
    ap (λ m. let x : HostState = record h { memory = m } in x) (c.store_in_turn.ensures
    ∙ ap (λ b. with_bytes_at_offset (with_bytes_at_offset h.memory first b set) second c.args.high next-set) low
    ∙ ap (λ m. with_bytes_at_offset m second c.args.high next-set) one
    ∙ ap (λ b. with_bytes_at_offset between.memory second b next-set) high
    ∙ two)
    ∙ ap (λ x. after_put (after_put x address v) (address + 1) w) same
