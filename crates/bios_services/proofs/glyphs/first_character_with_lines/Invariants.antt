use Rattle.std.proofs.Common.{◌≡◌, ◌-◌}
use Rattle.bios_services.specs.Glyphs.{glyph_has_lines, first_passing_number}
use Rattle.bios_services.proofs.glyphs.first_character_with_lines.Given as goal

-- the first from here on is the first of all
abbrev pub invariant-loop-character : goal.invariant-loop-character
invariant-loop-character l =
    let test = glyph_has_lines l.fonts l.height l.lines in
    first_passing_number test (l.n - l.character) l.character ≡ first_passing_number test l.n 0
