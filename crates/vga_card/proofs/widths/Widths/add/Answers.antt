use Rattle.std.proofs.Common.{◌<◌, ◌∙◌, ap, length, arith}
use Rattle.std.specs.Prelude.{nat_lt, if◌then◌else◌, slice_index, ◌+◌}
use Rattle.std.proofs.lemmas.List.{get_or_read, length-set}
use Rattle.vga_card.proofs.ShapeLemmas.{rows_within, rows_more}
use Rattle.vga_card.proofs.widths.Widths.add.Goals as goal

pub overflow_add-self : goal.overflow_add-self
overflow_add-self c = omega (arith, c.self.invariant.1, rows_within c.self.inside.each.items c.self.invariant.0, c.rows_begun-begun.ensures.few)

pub invariant_of-self : goal.invariant_of-self
invariant_of-self c =
    let ws = c.self.inside.each.items in
    let v = c.args.line in
    let n = c.args.dots in
    let within : v < length ws = omega (arith, c.requires.lines, c.self.invariant.0) in
    let was = get_or_read ws v c.index_mut-width.result.now within c.index_mut-width.ensures.value 0 in
    let begun = c.rows_begun-begun.ensures.value ∙ ap (λ w. if nat_lt 0 w then 0 else if nat_lt 0 n then 1 else 0) was in
    rw (was) (omega (arith, c.self.invariant.0, length-set ws v (slice_index ws v + n)), omega (arith, c.self.invariant.1, begun, rows_more ws v n within))
