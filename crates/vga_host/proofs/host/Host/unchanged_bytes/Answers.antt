-- A plain write leaves its byte in each plane.
use Rattle.std.proofs.Common.{sym, ◌∙◌}
use Rattle.vga_bits.proofs.WordLemmas.{bytes_from_bits}
use Rattle.vga_host.specs.Memory.Write.{written_bit}
use Rattle.vga_host.proofs.StoresByteLemmas.{plain_bit}
use Rattle.vga_host.proofs.host.Host.unchanged_bytes.Goals as goal

pub returns : goal.returns
returns c =
    let h = c.args.self.now in
    let v = c.args.v in
    c.from_word.ensures
    ∙ bytes_from_bits c.byte_in_all_planes.result (λ p i. written_bit h v p i) (λ p i lp li. c.byte_in_all_planes.ensures p i lp li
    ∙ sym (plain_bit h v p i c.requires lp li))
