-- How much memory a character fills, by how the mode uses the memory.
-- From the IBM PS/2 Hardware Interface Technical Reference, Video Subsystems, "Video Memory
-- Organization".
use Rattle.std.specs.Prelude.{ℕ}
use Rattle.bios_modes.specs.declared.kind.Kind.{Kind}
use Rattle.bios_modes.specs.declared.kind.Kind.TheVariants.{Text, Planar, Packed}

-- how many bytes of a line a column of characters fills: a character and its attribute, a byte of
-- each plane, or eight pixels
abbrev pub column_bytes : Kind → ℕ
column_bytes Text = 2
column_bytes Planar = 1
column_bytes Packed = 8

-- how many lines of the memory a row of characters of this height fills
abbrev pub row_lines : Kind → ℕ → ℕ
row_lines Text height = 1
row_lines Planar height = height
row_lines Packed height = height
