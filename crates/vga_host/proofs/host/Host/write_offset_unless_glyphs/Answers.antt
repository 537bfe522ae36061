-- The plane of glyphs is not reached, where the code says so.
use Rattle.std.proofs.Common.{◌∙◌, ap, sym, arith}
use Rattle.vga_host.specs.Memory.Address.{is_reached}
use Rattle.vga_host.proofs.host.Host.write_offset_unless_glyphs.Goals as goal
use Rattle.vga_host.proofs.host.Host.write_offset_unless_glyphs.Goals.{else-is_set-via-then-is_set+else-not-is_graphics, else-is_set-via-else-is_set}

pub returns-clause-beside : goal.returns-clause-beside
returns-clause-beside c = λ text.
    let h = c.args.self.now in
    let is = c.access-access.ensures.access in
    let at = (c.in-Some.ensures h is).1 in
    elim c.else-is_set.branch [
      | else-is_set-via-then-is_set+else-not-is_graphics w ↦ (let both = sym w.if-not-is_graphics.false ∙ w.is_graphics.ensures ∙ text in absurd (cc))
      | else-is_set-via-else-is_set w ↦ sym (ap (λ x. is_reached h x 2) at) ∙ sym (c.reached-set.ensures h 2 is (omega arith)) ∙ sym c.is_set.ensures ∙ w.if-is_set.false
    ]
