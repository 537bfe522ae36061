-- The four bytes are fetched, and each dot is looked up by its bits.
use Rattle.std.proofs.Common.{◌≡◌, ap, ◌∙◌}
use Rattle.vga_bits.specs.Words.{plane_bytes_of_word}
use Rattle.vga_planes.specs.Planes.{bytes_at}
use Rattle.vga_dots.specs.SourceDot.{fetch_address}
use Rattle.vga_dots.specs.Line.{dot_of_counter, colour_of_source_dot}
use Rattle.vga_dots.specs.declared.addressing.Addressing.{Addressing}
use Rattle.vga_dots.proofs.AddressingLemmas.{bit_small}
use Rattle.vga_dots.proofs.RowLemmas.{bytes_alike}
use Rattle.vga_dots.proofs.CharacterLemmas.{planar_dot}
use Rattle.vga_dots.proofs.character.PlanarCharactersCharacterDrawing.put.Goals as goal

pub address-address-requires : goal.address-address-requires
address-address-requires g c =
    rw (ap (λ (a : Addressing). a.bit) c.requires.draws.addressing) (bit_small c.args.display.now.crtc.registers)

pub returns : goal.returns
returns g c =
    let d = c.args.display.now in
    let n = c.args.counter in
    let draws = c.requires.draws in
    let fetched : plane_bytes_of_word c.word.result ≡ bytes_at d.host.memory (fetch_address d.crtc.registers n) =
    c.word.ensures ∙ ap (λ m. bytes_at m c.address-address.result) c.planes.ensures
    ∙ ap (bytes_at d.host.memory) (c.address-address.ensures d.crtc.registers c.requires.draws.addressing) in
    bytes_alike g.row.CW c.args.at _ (λ i. colour_of_source_dot d (dot_of_counter n i)) c.args.row.now c.put_planar_character.new.row c.put_planar_character.ensures
    (λ i j l lj. planar_dot d n c.args.self.now.table _ i j lj draws.table draws.shows fetched)
