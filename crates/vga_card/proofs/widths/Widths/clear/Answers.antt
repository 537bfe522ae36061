use Rattle.std.proofs.Common.{◌≡◌, sym, ap, length, arith}
use Rattle.vga_card.proofs.CanvasLemmas.{written_back}
use Rattle.vga_card.proofs.ShapeLemmas.{rows_none}
use Rattle.vga_card.proofs.widths.Widths.clear.Goals as goal

pub invariant_of-self : goal.invariant_of-self
invariant_of-self c =
    let a = c.self.inside in
    let new = c.clear_widths.new.widths in
    let whole : length new ≡ a.each.len = omega arith in
    rw (written_back a.each.len new a.each.items whole)
    (omega (arith, ap length c.as_mut_slice.ensures.value, c.self.invariant.0), sym (rows_none new c.clear_widths.ensures))
