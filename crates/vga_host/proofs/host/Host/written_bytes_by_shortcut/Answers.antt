-- Four bytes are known by the bits of their word.
use Rattle.std.proofs.Common.{◌∙◌}
use Rattle.vga_bits.proofs.WordLemmas.{bytes_from_bits}
use Rattle.vga_host.specs.Memory.Write.{written_bit}
use Rattle.vga_host.proofs.host.Host.written_bytes_by_shortcut.Goals as goal

pub returns : goal.returns
returns c = c.from_word.ensures ∙ bytes_from_bits c.written_word-word.result (λ p i. written_bit c.args.self.now c.args.v p i) c.written_word-word.ensures
