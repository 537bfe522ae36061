-- The glyphs of characters: their lines in the font of the mode's height, and the character whose
-- glyph has given lines.
-- From the IBM PS/2 and PC BIOS Interface Technical Reference, "Interrupt 10H - Video", "Character
-- Generator" and (AH) = 08H.
use Rattle.std.specs.Prelude.{ℕ, Bool, true, zero, suc, ◌+◌, ◌==◌, ◌&&◌, if◌then◌else◌, List}
use Rattle.std.specs.Prelude.{slice_index}
use Rattle.bios_modes.specs.Fonts.{FontSet, glyph_row}

-- line r of a character in the font of this height; bit 7 is the leftmost dot
abbrev pub glyph_line : FontSet → ℕ → ℕ → ℕ → ℕ
glyph_line fonts height character r =
    if height == 8 then glyph_row 8 fonts.f8 character r
    else if height == 14 then glyph_row 14 fonts.f14 character r
    else glyph_row 16 fonts.f16 character r

-- whether a test holds for each of n numbers from i on
abbrev pub holds_for_all : (ℕ → Bool) → ℕ → ℕ → Bool
holds_for_all test zero i = true
holds_for_all test (suc n) i = test i && holds_for_all test n (i + 1)

-- the first of n numbers from i on for which a test holds, else 0
abbrev pub first_passing_number : (ℕ → Bool) → ℕ → ℕ → ℕ
first_passing_number test zero i = 0
first_passing_number test (suc n) i = if test i then i else first_passing_number test n (i + 1)

-- whether a character's glyph has these lines
unfoldable pub glyph_has_lines : FontSet → ℕ → List ℕ → ℕ → Bool
glyph_has_lines fonts height lines character = holds_for_all (λ r.
    glyph_line fonts height character r == slice_index lines r) height 0

-- the first of n characters whose glyph has these lines, else 0
unfoldable pub first_character_with_lines : FontSet → ℕ → List ℕ → ℕ → ℕ
first_character_with_lines fonts height lines n =
    first_passing_number (glyph_has_lines fonts height lines) n 0
