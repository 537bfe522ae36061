use Rattle.std.proofs.Common.{◌<◌, ap, ◌∙◌, sym, subst}
use Rattle.vga_host.specs.Host.{HostState}
use Rattle.vga_dots.specs.declared.addressing.Addressing.{Addressing}
use Rattle.vga_dots.specs.Text.{cell_at}
use Rattle.vga_dots.proofs.AddressingLemmas.{bit_small}
use Rattle.vga_dots.proofs.character.TextCharacters.cell.Goals as goal

pub address-requires : goal.address-requires
address-requires c = subst (λ (a : Addressing). a.bit < 32) (sym c.requires.addressing) (bit_small c.args.display.now.crtc.registers)

pub returns : goal.returns
returns c =
    let d = c.args.display.now in
    c.cell_at.ensures ∙ ap (λ (x : HostState). cell_at x c.address.result) c.host.ensures
    ∙ ap (cell_at d.host) (c.address.ensures d.crtc.registers c.requires.addressing)
