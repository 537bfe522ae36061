-- The text-height table: the values of a text mode that depend on the height of characters.
-- From the IBM PS/2 and PC BIOS Interface Technical Reference, "Interrupt 10H - Video", (AH) = 11H,
-- and the IBM PS/2 Hardware Interface Technical Reference, Video Subsystems, "Alphanumeric Modes";
-- the values are this adapter's choice.
use Rattle.std.specs.Prelude.{ℕ, ◌==◌, if◌then◌else◌, slice_set, Option, Some, None}
use Rattle.bios_modes.specs.declared.heights.TextRow.{TextRow}
use Rattle.bios_modes.specs.declared.kind.Kind.{Kind}
use Rattle.bios_modes.specs.declared.kind.Kind.TheVariants.{Text, Planar, Packed}
use Rattle.bios_modes.specs.declared.modes.ModeRow.{ModeRow}
use Rattle.bios_modes.specs.declared.palette.Palette.{Palette}
use Rattle.bios_modes.specs.declared.palette.Palette.TheVariants.{Monochrome}
use Rattle.bios_modes.specs.Modes.{mode_row}

-- characters of 8 scan lines: 50 rows on a page; the argument is the scan line of underlines
abbrev pub fifty_rows_underlined_at : ℕ → TextRow
fifty_rows_underlined_at underline = record {
  height = 8;
  last_row = 49;
  size = 0x2000;
  pages = 4;
  maximum_scan_line = 0x47;
  vertical_display_end = 0x8F;
  underline = underline;
  cursor_type = 0x0607;
}

-- characters of 14 scan lines: 28 rows on a page
abbrev pub twenty_eight_rows_underlined_at : ℕ → TextRow
twenty_eight_rows_underlined_at underline = record {
  height = 14;
  last_row = 27;
  size = 0x2000;
  pages = 4;
  maximum_scan_line = 0x4D;
  vertical_display_end = 0x87;
  underline = underline;
  cursor_type = 0x0B0C;
}

-- characters of 16 scan lines: 25 rows on a page
abbrev pub twenty_five_rows_underlined_at : ℕ → TextRow
twenty_five_rows_underlined_at underline = record {
  height = 16;
  last_row = 24;
  size = 0x1000;
  pages = 8;
  maximum_scan_line = 0x4F;
  vertical_display_end = 0x8F;
  underline = underline;
  cursor_type = 0x0D0E;
}

-- the row of a height for text in colour, where no scan line of a character is underlined
abbrev pub colour_text_row : ℕ → Option TextRow
colour_text_row height =
    if height == 8 then Some (fifty_rows_underlined_at 0x1F)
    else if height == 14 then Some (twenty_eight_rows_underlined_at 0x1F)
    else if height == 16 then Some (twenty_five_rows_underlined_at 0x1F)
    else None

-- the row of a height for monochrome text, where the last scan line of a character is underlined
abbrev pub monochrome_text_row : ℕ → Option TextRow
monochrome_text_row height =
    if height == 8 then Some (fifty_rows_underlined_at 0x07)
    else if height == 14 then Some (twenty_eight_rows_underlined_at 0x0D)
    else if height == 16 then Some (twenty_five_rows_underlined_at 0x0F)
    else None

-- a value that a row gives, if there is a row
abbrev pub value_of_row : {A : Type 0} → Option ModeRow → (ModeRow → Option A) → Option A
value_of_row None f = None
value_of_row (Some row) f = f row

-- the text-height table's row for a kind of mode and a height, if there is one
abbrev pub text_row_of_kind : Kind → Palette → ℕ → Option TextRow
text_row_of_kind Text Monochrome height = monochrome_text_row height
text_row_of_kind Text _ height = colour_text_row height
text_row_of_kind Planar _ height = None
text_row_of_kind Packed _ height = None

-- the text-height table's row for a mode's row and a height, if there is one
abbrev pub text_row_of_mode_row : ModeRow → ℕ → Option TextRow
text_row_of_mode_row row height = text_row_of_kind row.kind row.palette height

-- the text-height table's row for a mode and a height, if there is one
abbrev pub text_row : ℕ → ℕ → Option TextRow
text_row mode height = value_of_row (mode_row mode) (λ row. text_row_of_mode_row row height)

-- a mode's row with the values of a height
abbrev pub with_text_row : ModeRow → TextRow → ModeRow
with_text_row row text = record row {
  crtc = slice_set (slice_set (slice_set row.crtc 0x09 text.maximum_scan_line) 0x12
      text.vertical_display_end) 0x14 text.underline;
  size = text.size;
  pages = text.pages;
  last_row = text.last_row;
  height = text.height;
  cursor_type = text.cursor_type;
}

-- a mode's row with the values of a height, if there are such
abbrev pub with_height_row : ModeRow → Option TextRow → Option ModeRow
with_height_row row None = None
with_height_row row (Some text) = Some (with_text_row row text)

-- a mode's row at a height: for text by the table, for graphics the row as it is
abbrev pub row_at_height_by_kind : Kind → ModeRow → ℕ → Option ModeRow
row_at_height_by_kind Text row height = with_height_row row (text_row_of_mode_row row height)
row_at_height_by_kind Planar row height = Some row
row_at_height_by_kind Packed row height = Some row

-- a mode's row at a height, if there is one
abbrev pub row_at_height : ModeRow → ℕ → Option ModeRow
row_at_height row height = row_at_height_by_kind row.kind row height

-- the row of a mode, by its number, at a height, if there is one
abbrev pub mode_row_at_height : ℕ → ℕ → Option ModeRow
mode_row_at_height mode height = value_of_row (mode_row mode) (λ row. row_at_height row height)
