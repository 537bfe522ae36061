-- A read at the place of an address loads the bytes there.
use Rattle.std.proofs.Common.{◌≡◌, ◌∙◌, ap, sym, subst}
use Rattle.vga_bits.specs.Bits.{byte_of_bits}
use Rattle.vga_planes.specs.Planes.{bytes_at}
use Rattle.vga_host.specs.Host.{HostState}
use Rattle.vga_host.specs.Memory.Access.{IsAccess}
use Rattle.vga_host.specs.Memory.Address.{window_offset, plane_offset}
use Rattle.vga_host.specs.Memory.Read.{loaded, read_bit, read_byte, after_get}
use Rattle.vga_host.proofs.host.Host.get_in_window.Goals as goal

pub returns-clause-read : goal.returns-clause-read
returns-clause-read c address at =
    let h : HostState = record {
      memory = c.self.inside.planes;
      latches = c.self.inside.latch;
      seq = c.self.inside.seq.values;
      gfx = c.self.inside.gfx.values;
      seq_index = c.self.inside.seq_index;
      gfx_index = c.self.inside.gfx_index;
    } in
    let same : h ≡ c.args.self.now = c.self.view_is in
    let is : IsAccess c.args.access h = subst (λ x. IsAccess c.args.access x) (sym same) c.requires in
    let w = c.args.in_window in
    let of_h : w ≡ window_offset h address = at ∙ ap (λ x. window_offset x address) (sym same) in
    let place : c.offset.result ≡ plane_offset h (window_offset h address) = c.offset.ensures h is ∙ ap (plane_offset h) of_h in
    let bytes : c.load-bytes.result ≡ loaded h address = c.load-bytes.ensures ∙ ap (λ o. bytes_at h.memory o) place in (
      c.read_byte-answer.ensures ∙ ap (λ x. byte_of_bits (λ i. read_bit x w c.load-bytes.result i)) (sym same)
          ∙ ap (λ b. byte_of_bits (λ i. read_bit h w b i)) bytes ∙ ap (λ x. byte_of_bits (λ i. read_bit h x (loaded h address) i)) of_h
          ∙ ap (λ x. read_byte x address) same,
      ap (λ l. let after : HostState = record h { latches = l } in after) bytes ∙ ap (λ x. after_get x address) same,
    )
