use Rattle.std.proofs.Common.{◌∙◌, ap, sym, arith, length, take, ℕ}
use Rattle.std.proofs.lemmas.List.{take_all}
use Rattle.vga_bits.specs.Four.{Four, of_plane}
use Rattle.vga_planes.specs.PlaneWords.{planes_of_words}
use Rattle.vga_planes.proofs.SavedLemmas.{one_more_at_first, plane_len, plane_byte}
use Rattle.vga_planes.proofs.planes.saved.split_plane.Goals as goal

pub loop-i-preserved : goal.loop-i-preserved
loop-i-preserved c =
    let words = c.args.words.now in
    let p = c.args.plane in
    let i = c.loop-i.i in
    let size = plane_len words p c.requires.plane in
    one_more_at_first c.loop-i.out (of_plane (planes_of_words words) p) i c.byte.result c.loop-i.invariant (omega arith) (omega (arith, size))
    (c.byte.ensures ∙ ap (λ (f : Four ℕ). of_plane f p) c.from_word.ensures ∙ plane_byte words i p c.requires.plane (omega arith))

pub returns : goal.returns
returns c =
    let words = c.args.words.now in
    let plane = of_plane (planes_of_words words) c.args.plane in
    let size = plane_len words c.args.plane c.requires.plane in
    sym (take_all c.loop-i.i c.loop-i.out (omega arith)) ∙ c.loop-i.invariant ∙ take_all c.loop-i.i plane (omega (arith, size))
