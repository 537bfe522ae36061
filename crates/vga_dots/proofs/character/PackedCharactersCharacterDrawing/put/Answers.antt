-- The four bytes are fetched, and each is two dots.
use Rattle.std.proofs.Common.{◌≡◌, ℕ, List, refl, ap, ◌∙◌, arith}
use Rattle.vga_bits.specs.Four.{of_plane}
use Rattle.vga_planes.specs.Planes.{byte_at, bytes_at}
use Rattle.vga_dac.specs.Dac.{DacState}
use Rattle.vga_dots.specs.SourceDot.{fetch_address}
use Rattle.vga_dots.specs.Row.{colour_and_zero_byte}
use Rattle.vga_dots.specs.Line.{masked_colour, dot_of_counter, colour_of_source_dot}
use Rattle.vga_dots.specs.declared.addressing.Addressing.{Addressing}
use Rattle.vga_dots.proofs.AddressingLemmas.{bit_small}
use Rattle.vga_dots.proofs.RowLemmas.{bytes_alike}
use Rattle.vga_dots.proofs.CharacterLemmas.{packed_dot}
use Rattle.vga_dots.proofs.character.PackedCharactersCharacterDrawing.put.Goals as goal

pub address-address-requires : goal.address-address-requires
address-address-requires g c =
    rw (ap (λ (a : Addressing). a.bit) c.requires.draws.addressing) (bit_small c.args.display.now.crtc.registers)

pub returns : goal.returns
returns g c =
    let d = c.args.display.now in
    let n = c.args.counter in
    let memory = d.host.memory in
    let address = fetch_address d.crtc.registers n in
    let fetched : (p v : ℕ) → v ≡ of_plane c.load-fetched.result p → of_plane (bytes_at memory address) p ≡ byte_at memory p address →
    v ≡ byte_at memory p address =
    λ p v e same. e ∙ ap (λ l. of_plane l p) c.load-fetched.ensures ∙ ap (λ m. of_plane (bytes_at m c.address-address.result) p) c.planes.ensures
    ∙ ap (λ o. of_plane (bytes_at memory o) p) (c.address-address.ensures d.crtc.registers c.requires.draws.addressing) ∙ same in
    let colour : (q : List ℕ) (v w : ℕ) → q ≡ colour_and_zero_byte (masked_colour c.dac-dac.result.now v) → v ≡ w → q ≡ colour_and_zero_byte (masked_colour d.dac w) =
    λ q v w e same. e ∙ ap (λ (x : DacState). colour_and_zero_byte (masked_colour x v)) c.dac-dac.ensures ∙ ap (λ n. colour_and_zero_byte (masked_colour d.dac n)) same in
    let e0 = colour _ _ _ c.colour_and_zero_byte.ensures (fetched 0 _ c.byte.ensures refl) in
    let e1 = colour _ _ _ c.colour_and_zero_byte-2.ensures (fetched 1 _ c.byte-2.ensures refl) in
    let e2 = colour _ _ _ c.colour_and_zero_byte-3.ensures (fetched 2 _ c.byte-3.ensures refl) in
    let e3 = colour _ _ _ c.colour_and_zero_byte-4.ensures (fetched 3 _ c.byte-4.ensures refl) in
    let e4 = colour _ _ 0 c.colour_and_zero_byte-5.ensures refl in
    bytes_alike g.row.CW c.args.at _ (λ i. colour_of_source_dot d (dot_of_counter n i)) c.args.row.now c.put_packed_character.new.row c.put_packed_character.ensures
    (λ i j l lj. packed_dot d n _ _ _ _ _ i j (omega (arith, l, c.requires.width)) lj c.requires.draws.shows e0 e1 e2 e3 e4)
