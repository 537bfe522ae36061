-- What is told of a dot of text: each decision between the cell and its foreground or background,
-- as the definitions of its colour have them.
-- From the IBM PS/2 Hardware Interface Technical Reference, Video Subsystems, "Alphanumeric Modes".
use Rattle.std.specs.Prelude.{◌≡◌, ◌+◌, ◌*◌, false}
use Rattle.vga_planes.specs.Planes.{byte_at}
use Rattle.vga_host.specs.Graphics.{is_graphics}
use Rattle.vga_dots.specs.declared.text_trace.TextTrace.{TextTrace}
use Rattle.vga_dots.specs.SourceDot.{source_dot}
use Rattle.vga_dots.specs.Fetch.{address_fetched_at_beam}
use Rattle.vga_dots.specs.Text.{cell_at, character_map, map_start, glyph_row, is_glyph_dot}
use Rattle.vga_dots.specs.Text.{is_underlined, is_blinked_away, is_cursor_at, is_foreground}
use Rattle.vga_dots.specs.Display.{DisplayState}

-- The display is in text, and this is told of the dot at the beam: the cell at the address that it
-- fetches; the map, the place in plane 2 and the byte of the glyph's row; and what cursor, blink,
-- underline and glyph say of the dot.
pub record IsTextTrace (d : DisplayState) (told : TextTrace) : Type 0 where
  pub text : is_graphics d.host ≡ false
  pub cell : told.cell ≡ cell_at d.host (address_fetched_at_beam d.host d.crtc d.attr)
  pub map : told.map ≡ character_map d.host told.cell
  pub place : told.glyph_address ≡ map_start told.map + 32 * told.cell.character + d.crtc.beam.scan
  pub byte : told.glyph_row ≡ byte_at d.host.memory 2 told.glyph_address
  pub row : told.glyph_row ≡ glyph_row d.host told.cell d.crtc.beam.scan
  pub cursor : told.is_cursor ≡ is_cursor_at d.crtc (source_dot d.host d.crtc d.attr).counter
  pub blinked : told.is_blinked_away ≡ is_blinked_away d.crtc d.attr told.cell
  pub underlined : told.is_underlined ≡ is_underlined d.crtc d.attr told.cell
  pub glyph : told.is_glyph_dot ≡ is_glyph_dot d.attr told.cell.character told.glyph_row
      (source_dot d.host d.crtc d.attr).dot
  pub foreground : told.is_foreground ≡ is_foreground d.host d.crtc d.attr
      (source_dot d.host d.crtc d.attr) told.cell
