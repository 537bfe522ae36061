-- The three ways in which modes use the memory: text, a bit of each plane for a pixel, and a byte
-- for a pixel.
-- From the IBM PS/2 Hardware Interface Technical Reference, Video Subsystems, "Video Memory
-- Organization".
use Rattle.std.specs.Prelude.{ℕ, Bool, true, false, Option, Some, None}
use Rattle.bios_modes.specs.declared.kind.Kind.{Kind}
use Rattle.bios_modes.specs.declared.kind.Kind.TheVariants.{Text, Planar, Packed}
use Rattle.bios_modes.specs.declared.modes.ModeRow.{ModeRow}
use Rattle.bios_modes.specs.Modes.{mode_row}

-- how a mode uses the memory, by its row of the mode table; without a row, as 16 colours do
abbrev pub kind_of_row : Option ModeRow → Kind
kind_of_row None = Planar
kind_of_row (Some row) = row.kind

-- how a mode uses the memory, by its number
abbrev pub kind_of : ℕ → Kind
kind_of mode = kind_of_row (mode_row mode)

-- whether this is the use of text
abbrev pub is_text_kind : Kind → Bool
is_text_kind Text = true
is_text_kind Planar = false
is_text_kind Packed = false

-- whether this is a byte for a pixel
abbrev pub is_kind_of_256_colours : Kind → Bool
is_kind_of_256_colours Text = false
is_kind_of_256_colours Planar = false
is_kind_of_256_colours Packed = true

-- whether a mode is text
abbrev pub is_text : ℕ → Bool
is_text mode = is_text_kind (kind_of mode)

-- whether a mode has 256 colours
abbrev pub is_mode_of_256_colours : ℕ → Bool
is_mode_of_256_colours mode = is_kind_of_256_colours (kind_of mode)
