use Rattle.std.proofs.Common.{◌≡◌, ◌+◌, ◌-◌, ◌*◌, ◌/◌, ◌%◌, ◌<◌, ◌≤◌, ap, ◌∙◌, arith}
use Rattle.std.proofs.lemmas.Nat.{div-add-mod', mod_below}
use Rattle.vga_crtc.specs.declared.beam.Beam.{Beam}
use Rattle.vga_crtc.specs.Raster.{dot_number_in_line}
use Rattle.vga_dots.proofs.LineLemmas.{part_panned, eight_wide}
use Rattle.vga_dots.proofs.line.draw_next_displayed_dots_of_line.Goals as goal

pub draw_characters-requires-clause-eight : goal.draw_characters-requires-clause-eight
draw_characters-requires-clause-eight g c = eight_wide c.args.display.now.host g.row.CW c.requires.width

pub returns : goal.returns
returns g c =
    let cw = g.row.CW in
    let d = c.args.display.now in
    let b = c.beam-beam.result in
    let n = c.args.count in
    let p = c.panning_shift.result in
    let start = b.dot + p in
    let first = b.character + start / cw in
    let skipped = start % cw in
    let last = skipped + n + cw - 1 in
    let wide = eight_wide d.host cw c.requires.width in
    let some : 0 < cw = omega (arith, wide) in
    let same : dot_number_in_line cw b + p ≡ dot_number_in_line cw d.crtc.beam + p = ap (λ (x : Beam). dot_number_in_line cw x + p) c.beam-beam.ensures.value in
    let begin : first * cw + skipped ≡ dot_number_in_line cw b + p = omega (arith, div-add-mod' start cw) in
    let fits : skipped + n ≤ last / cw * cw = omega (arith, div-add-mod' last cw, mod_below last cw some, wide) in
    part_panned cw d c.requires.width n first skipped (last / cw) p _ c.draw_characters.new.row c.args.row.now c.copy_dots.new.row
    some c.panning_shift.ensures.value (omega (arith, c.panning_shift.ensures.few, wide)) (begin ∙ same) fits c.draw_characters.ensures c.copy_dots.ensures
