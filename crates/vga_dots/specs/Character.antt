-- What is looked up before the characters of a line are drawn, and for which display it holds.
use Rattle.std.specs.Prelude.{◌≡◌, ◌≤◌, ◌+◌, ◌*◌, ◌||◌, ℕ, Bool, true, false, if◌then◌else◌}
use Rattle.vga_bits.specs.Bits.{field}
use Rattle.vga_planes.specs.Planes.{byte_at}
use Rattle.vga_crtc.specs.Crtc.{CrtcState}
use Rattle.vga_attr.specs.Attr.{AttrState}
use Rattle.vga_dots.specs.declared.character.TextCharacters.{TextCharacters}
use Rattle.vga_dots.specs.declared.character.CellLook.{CellLook}
use Rattle.vga_dots.specs.declared.eight_dots.EightDots.{EightDots}
use Rattle.vga_dots.specs.declared.text.Cell.{Cell}
use Rattle.vga_dots.specs.declared.character.PlanarCharacters.{PlanarCharacters}
use Rattle.vga_dots.specs.declared.character.PackedCharacters.{PackedCharacters}
use Rattle.vga_dots.specs.Addressing.{addressing_of}
use Rattle.vga_dots.specs.TextLine.{text_line, GlyphRowsLieInPlane}
use Rattle.vga_dots.specs.Text.{background, glyph_row, is_blinked_away, is_underlined}
use Rattle.vga_dots.specs.Line.{colour_by_palette, sixteen_palette_colours}
use Rattle.vga_dots.specs.EightDots.{AreEightDotsOfColour, changed_dots}
use Rattle.vga_dots.specs.Display.{DisplayState, ShowsText, ShowsPlanes, ShowsBytes}

-- text is shown, and `text` has its addressing and the settings of the beam's line
pub record AreTextCharactersOf (text : TextCharacters) (display : DisplayState) : Type 0 where
  pub shows : ShowsText display
  pub addressing : text.addressing ≡ addressing_of display.crtc.registers
  pub line : text.line ≡ text_line display.host display.crtc display.attr
  pub glyphs : GlyphRowsLieInPlane text.line

-- the four bits of a dot of a cell without the cursor, which belongs to the glyph or does not: of a
-- cell that is blinked away each dot has the background, and of an underlined one the foreground
abbrev pub cursorless_nibble : CrtcState → AttrState → Cell → Bool → ℕ
cursorless_nibble c a cell is_glyph =
    if is_blinked_away c a cell then background a cell
    else if is_underlined c a cell || is_glyph then field cell.attribute 3 0
    else background a cell

-- a cell of this attribute
abbrev pub cell_of : ℕ → ℕ → Cell
cell_of attribute character = record { character = character; attribute = attribute }

-- without the cursor, each cell of the attribute has eight dots of the ground, which the change turns
-- into eight dots of its glyph
pub record AreDotsOfCells (attribute : ℕ) (dots change : EightDots) (display : DisplayState) : Type 0 where
  pub glyph : (character : ℕ) → AreEightDotsOfColour (changed_dots dots change)
      (colour_by_palette display.attr display.dac
      (cursorless_nibble display.crtc display.attr (cell_of attribute character) true))
  pub ground : (character : ℕ) → AreEightDotsOfColour dots (colour_by_palette display.attr
      display.dac
      (cursorless_nibble display.crtc display.attr (cell_of attribute character) false))

-- without the cursor, each cell of the attribute has these dots and these glyphs
pub record IsLookOfItsCells (look : CellLook) (display : DisplayState) : Type 0 where
  pub dots : AreDotsOfCells look.attribute look.ground look.change display
  pub glyphs : (character : ℕ) → byte_at display.host.memory 2 (look.glyphs + 32 * character)
      ≡ glyph_row display.host (cell_of look.attribute character) display.crtc.beam.scan
  pub bound : look.glyphs ≤ 57375

-- 16 colours are shown, and `planar` has their addressing and the colours
pub record ArePlanarCharactersOf (planar : PlanarCharacters) (display : DisplayState) : Type 0 where
  pub shows : ShowsPlanes display
  pub addressing : planar.addressing ≡ addressing_of display.crtc.registers
  pub table : planar.table ≡ sixteen_palette_colours display.attr display.dac

-- 256 colours are shown, and `packed` has their addressing
pub record ArePackedCharactersOf (packed : PackedCharacters) (display : DisplayState) : Type 0 where
  pub shows : ShowsBytes display
  pub addressing : packed.addressing ≡ addressing_of display.crtc.registers
