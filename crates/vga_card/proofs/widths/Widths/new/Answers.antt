use Rattle.std.proofs.Common.{◌∙◌, ap, sym, length}
use Rattle.vga_bits.proofs.ByteLemmas.{length-zeros}
use Rattle.vga_card.proofs.CanvasLemmas.{blank}
use Rattle.vga_card.proofs.ShapeLemmas.{rows_none}
use Rattle.vga_card.proofs.widths.Widths.new.Goals as goal

pub invariant_of-result : goal.invariant_of-result
invariant_of-result c =
    let each = c.in_ok-each.each.items in
    let zeros = c.in_ok-each.ensures.items in
    (ap length zeros ∙ length-zeros 1024, sym (rows_none each (blank 1024 each zeros)))
