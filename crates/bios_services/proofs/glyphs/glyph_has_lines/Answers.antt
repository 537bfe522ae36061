use Rattle.std.proofs.Common.{ℕ, ◌∙◌, ◌==◌, slice_index, sym, eq-eqb, arith}
use Rattle.bios_services.specs.Glyphs.{glyph_line}
use Rattle.bios_services.proofs.GlyphLemmas.{next_of_all}
use Rattle.bios_services.proofs.glyphs.glyph_has_lines.Goals as goal

pub loop-r-preserved : goal.loop-r-preserved
loop-r-preserved c =
    next_of_all (λ (r : ℕ). glyph_line c.args.fonts.now c.args.height c.args.character r == slice_index c.args.lines.now r) c.loop-r.r c.args.height _
    (omega arith) (eq-eqb _ _ (sym c.glyph_line.ensures ∙ c.if-not-same.false)) c.loop-r.invariant
