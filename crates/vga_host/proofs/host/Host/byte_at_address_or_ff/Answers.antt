-- A read by what the registers say is a read.
use Rattle.std.proofs.Common.{◌∙◌, ap, List, ℕ}
use Rattle.vga_bits.specs.Bits.{byte_of_bits}
use Rattle.vga_bits.specs.Four.{Four}
use Rattle.vga_planes.specs.Planes.{bytes_at}
use Rattle.vga_host.specs.Memory.Read.{read_bit}
use Rattle.vga_host.proofs.RunLemmas.{byte_got}
use Rattle.vga_host.proofs.host.Host.byte_at_address_or_ff.Goals as goal

pub returns-in-Some : goal.returns-in-Some
returns-in-Some c =
    let h = c.args.self.now in
    let is = c.requires.access in
    let d = c.in-Some.ensures h is in
    c.read_byte.ensures
    ∙ ap (λ b. byte_of_bits (λ i. read_bit h c.in-Some.in_window b i)) (c.load-bytes.ensures ∙ ap (λ (m : Four (List ℕ)). bytes_at m c.offset.result) c.planes.ensures)
    ∙ byte_got h c.args.misc c.args.address c.in-Some.in_window c.offset.result d.0 d.1 (c.offset.ensures h is)
