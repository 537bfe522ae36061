-- What the beam's line decides for all characters of text alike.
-- From the IBM PS/2 Hardware Interface Technical Reference, Video Subsystems, "Cursor Start
-- Register", "Attribute Mode Control Register", "Underline Location Register" and "Character Map
-- Select Register".
use Rattle.std.specs.Prelude.{◌≤◌, ◌+◌, ◌%◌, ◌==◌, ◌&&◌, not, nat_lt, nat_le}
use Rattle.std.specs.Prelude.{if◌then◌else◌}
use Rattle.vga_host.specs.Host.{HostState}
use Rattle.vga_host.specs.Sequencer.{character_map_a, character_map_b}
use Rattle.vga_crtc.specs.Crtc.{CrtcState}
use Rattle.vga_crtc.specs.Fields.{cursor_start, is_cursor_off, cursor_end, cursor_location}
use Rattle.vga_crtc.specs.Fields.{underline_location}
use Rattle.vga_attr.specs.Attr.{AttrState}
use Rattle.vga_attr.specs.Fields.{is_monochrome, is_line_graphics, is_blink}
use Rattle.vga_dots.specs.declared.text_line.TextLineSettings.{TextLineSettings}
use Rattle.vga_dots.specs.Text.{map_start}

-- What the registers and the beam's line and frame say of every character: where this line has the
-- cursor, which bit of an attribute blinks away, which value of attribute bits 0x77 is underlined
-- here, where the glyphs' rows begin, at which character a block of 32 with a ninth dot begins, and
-- which bits the background has. 65536 is no counter, bits 0x77 are never 0xFF, and no block of 32
-- characters begins at 0x100.
unfoldable pub text_line : HostState → CrtcState → AttrState → TextLineSettings
text_line h c a = record {
  cursor = if not (is_cursor_off c.registers) && nat_le (cursor_start c.registers) c.beam.scan
      && nat_le c.beam.scan (cursor_end c.registers) && nat_lt (c.beam.frame % 16) 8
      then cursor_location c.registers else 65536;
  blinked_away = if is_blink a && nat_le 16 c.beam.frame then 0x80 else 0;
  underlined = if is_monochrome a && c.beam.scan == underline_location c.registers then 1 else 0xFF;
  map_a = map_start (character_map_a h) + c.beam.scan;
  map_b = map_start (character_map_b h) + c.beam.scan;
  nine_dot_block = if is_line_graphics a then 0xC0 else 0x100;
  background_mask = if is_blink a then 0x07 else 0x0F;
}

-- the rows of all glyphs of a line are in their plane, in either map
pub record GlyphRowsLieInPlane (line : TextLineSettings) : Type 0 where
  pub map_a : line.map_a ≤ 57375
  pub map_b : line.map_b ≤ 57375
