-- Four bytes are known by the bits of their word.
use Rattle.std.proofs.Common.{ap, sym, ◌∙◌}
use Rattle.std.specs.Int.{bit_at}
use Rattle.vga_bits.specs.Four.{of_plane}
use Rattle.vga_bits.proofs.WordLemmas.{bytes_from_bits}
use Rattle.vga_host.specs.Host.{HostState}
use Rattle.vga_host.specs.Memory.Write.{written_bit}
use Rattle.vga_host.proofs.StoresByteLemmas.{latched_bit}
use Rattle.vga_host.proofs.host.Host.stored_latches.Goals as goal

pub returns : goal.returns
returns c = λ v.
    let h = c.args.self.now in
    c.from_word.ensures
    ∙ bytes_from_bits c.word-word.result (λ p i. written_bit h v p i) (λ p i lp li. c.word-word.ensures.bits p i lp li
    ∙ ap (λ (x : HostState). bit_at (of_plane x.latches p) i) c.self.view_is
    ∙ sym (latched_bit h v p i c.requires))
