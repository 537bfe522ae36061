use Rattle.std.proofs.Common.{ℕ, ◌≡◌, ◌-◌, ◌==◌, slice_index}
use Rattle.bios_services.specs.Glyphs.{glyph_line, holds_for_all}
use Rattle.bios_services.proofs.glyphs.glyph_has_lines.Given as goal

-- the test of the lines from here on is that of all lines
abbrev pub invariant-loop-r : goal.invariant-loop-r
invariant-loop-r l =
    let test = λ (r : ℕ). glyph_line l.fonts l.height l.character r == slice_index l.lines r in
    holds_for_all test (l.height - l.r) l.r ≡ holds_for_all test l.height 0
