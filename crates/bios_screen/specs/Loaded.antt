-- Loading glyphs on a plain screen of text, which also sets the height of characters.
-- From the IBM PS/2 and PC BIOS Interface Technical Reference, "Interrupt 10H - Video", (AH) = 11H.
use Rattle.std.specs.Prelude.{ℕ, ◌+◌, ◌/◌, ◌%◌, ◌&&◌, nat_lt, nat_le, if◌then◌else◌, List, length}
use Rattle.std.specs.Prelude.{replicate, slice_index, Option, Some, None}
use Rattle.vga_bits.specs.declared.refusal.Refusal.{Refusal}
use Rattle.vga_bits.specs.declared.refusal.Refusal.TheVariants.{BadHeight}
use Rattle.bios_modes.specs.declared.heights.TextRow.{TextRow}
use Rattle.bios_modes.specs.Heights.{text_row}
use Rattle.bios_modes.specs.Fonts.{FontSet}
use Rattle.bios_services.specs.declared.glyph_load.GlyphLoad.{GlyphLoad}
use Rattle.bios_services.specs.Reasons.{◌or◌}
use Rattle.bios_services.specs.GlyphLoads.{load_refusal, loaded_line}
use Rattle.bios_screen.specs.Listing.{list_by_function}
use Rattle.bios_screen.specs.Screen.{Layout, Screen}

-- why a height is refused: the text-height table has no row for it
abbrev pub height_refusal_on : Option TextRow → Option Refusal
height_refusal_on None = Some BadHeight
height_refusal_on (Some text) = None

-- why a load of glyphs is refused on a screen with a block of this length
abbrev pub load_refusal_on : Screen → GlyphLoad → ℕ → Option Refusal
load_refusal_on s load len = load_refusal load s.mode len
    or height_refusal_on (text_row s.mode load.height)

-- byte i of the glyphs, sixteen for a character, after a load: the first lines of each loaded
-- character are new, and all others stay
abbrev pub glyph_byte_after_load : FontSet → GlyphLoad → List ℕ → (ℕ → ℕ) → ℕ → ℕ
glyph_byte_after_load fonts load block old i =
    if nat_le load.first (i / 16) && (nat_lt (i / 16) (load.first + load.count)
    && nat_lt (i % 16) load.height)
    then loaded_line fonts load block (i / 16) (i % 16)
    else old i

-- the layout of text with the values of a row of the text-height table
abbrev pub layout_at_height : Layout → TextRow → Layout
layout_at_height l text = record {
  columns = l.columns;
  rows = text.last_row + 1;
  height = text.height;
  distance = text.size / 2;
  pages = text.pages;
}

-- the screen after a load, by the row of its height: the cells stay and are laid out anew, the
-- cursors are in the upper left corner, and page 0 is active
abbrev pub load_at_height : Option TextRow → FontSet → Screen → GlyphLoad → List ℕ → Screen
load_at_height None fonts s load block = s
load_at_height (Some text) fonts s load block = record s {
  layout = layout_at_height s.layout text;
  places = replicate 8 0;
  cursor_type = text.cursor_type;
  page = 0;
  glyphs = list_by_function (glyph_byte_after_load fonts load block (slice_index s.glyphs)) 0
      (length s.glyphs);
}

-- the screen after a load that is not refused
unfoldable pub load_glyphs : FontSet → Screen → GlyphLoad → List ℕ → Screen
load_glyphs fonts s load block = load_at_height (text_row s.mode load.height) fonts s load block
