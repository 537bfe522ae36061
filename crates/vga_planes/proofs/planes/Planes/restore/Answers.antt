use Rattle.std.proofs.Common.{◌∙◌, ap, arith, length, take, drop}
use Rattle.std.proofs.lemmas.List.{with_items_is}
use Rattle.vga_planes.specs.PlaneWords.{planes_of_words}
use Rattle.vga_planes.specs.Saved.{memory_from}
use Rattle.vga_planes.proofs.planes.Planes.restore.Goals as goal

pub returns : goal.returns
unfolding memory_from
returns c =
    let e0 = c.split_at.ensures.front in
    let r0 = c.split_at.ensures.back in
    let e1 = c.split_at-2.ensures.front ∙ ap (take 65536) r0 in
    let r1 = c.split_at-2.ensures.back ∙ ap (drop 65536) r0 in
    let e2 = c.split_at-3.ensures.front ∙ ap (take 65536) r1 in
    let e3 = c.split_at-3.ensures.back ∙ ap (drop 65536) r1 in
    ap planes_of_words (with_items_is c.self.inside.words c.join_planes.new.words (omega (arith, ap length c.as_mut_slice.ensures.value))) ∙ c.join_planes.ensures
    ∙ (λ j. record { plane0 = e0 j; plane1 = e1 j; plane2 = e2 j; plane3 = e3 j })
