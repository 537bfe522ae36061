use Rattle.std.proofs.Common.{◌≡◌, ◌+◌, ◌-◌, ap, ◌∙◌, arith}
use Rattle.vga_dots.specs.Line.{unpanned_colour}
use Rattle.vga_dots.proofs.AlikeLemmas.{one_look}
use Rattle.vga_dots.proofs.alike.count_characters_to_draw.Goals as goal

pub returns-clause-alike : goal.returns-clause-alike
returns-clause-alike c = λ x i behind before.
    let d = c.args.display.now in
    let is = c.loop-drawn.invariant in
    let n = c.loop-drawn.drawn in
    let last : c.min.result - 1 ≡ n = omega (arith, c.min.ensures, behind, before) in
    ap (λ k. unpanned_colour d (c.args.first + k) i) last
    ∙ one_look d i _ _ c.cell-last.result c.requires.draws.shows (is.1 n (omega arith) (omega (arith, c.min.ensures, behind, before)))
    (is.1 x (omega (arith, c.min.ensures, behind, before)) before)
