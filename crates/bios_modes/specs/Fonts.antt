-- A font file: the glyphs of 256 characters in three heights.
-- From the IBM PS/2 and PC BIOS Interface Technical Reference, "Interrupt 10H - Video", "Character
-- Generator"; the order of the heights in the file is this adapter's choice.
use Rattle.std.specs.Prelude.{ℕ, ◌≡◌, ◌≢◌, ◌*◌, List, length, take, drop, slice_index, ◌+◌}
use Rattle.vga_bits.specs.declared.fault.Fault.{Fault}
use Rattle.vga_bits.specs.declared.fault.Fault.TheVariants.{FontSize, OutOfMemory}

-- the three fonts: the bytes of 256 characters each, one byte for a row, top row first
pub record FontSet : Type 0 where
  pub f8 : List ℕ
  pub f14 : List ℕ
  pub f16 : List ℕ

-- how many bytes a font of height h has
abbrev pub font_len : ℕ → ℕ
font_len h = 256 * h

-- row r of character c in a font of height h; bit 7 is the leftmost dot
abbrev pub glyph_row : ℕ → List ℕ → ℕ → ℕ → ℕ
glyph_row h font c r = slice_index font (h * c + r)

-- how many bytes a font file has
abbrev pub font_file_len : ℕ
font_file_len = 9728

-- the fonts of a file: that of 8 rows, then that of 14, then that of 16
unfoldable pub fonts_of : List ℕ → FontSet
fonts_of file =
    let rest = drop (font_len 8) file in
    record {
      f8 = take (font_len 8) file;
      f14 = take (font_len 14) rest;
      f16 = drop (font_len 14) rest;
    }

-- why a file gives no fonts: it has another length, or memory was refused
abbrev pub IsFontFault : List ℕ → Fault → Type 0
IsFontFault file FontSize = length file ≢ font_file_len
IsFontFault file OutOfMemory = length file ≡ font_file_len
IsFontFault file _ = ⊥
