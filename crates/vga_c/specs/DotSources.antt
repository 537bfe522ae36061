-- Where the colour of a dot comes from, as the caller gets it.
use Rattle.std.specs.Prelude.{◌≡◌, ◌⊎◌, ◌==◌, ℕ, true, not, slice_index, Option, None, Some}
use Rattle.vga_crtc.specs.declared.beam.Beam.{Beam as CrtcBeam}
use Rattle.vga_crtc.specs.Beam.{IsBeam}
use Rattle.vga_dots.specs.declared.dot_trace.DotTrace.{DotTrace}
use Rattle.vga_dots.specs.declared.palette_trace.PaletteTrace.{PaletteTrace}
use Rattle.vga_dots.specs.declared.text_trace.TextTrace.{TextTrace}
use Rattle.vga_dots.specs.DotTrace.{IsDotTrace}
use Rattle.vga_card.specs.Card.{CardState}
use Rattle.vga_explain.specs.Dots.{display_with_beam}
use Rattle.vga_c.specs.declared.dot_sources.DotSource.{DotSource}
use Rattle.vga_c.specs.declared.dot_sources.PalettePart.{PalettePart}
use Rattle.vga_c.specs.declared.dot_sources.TextPart.{TextPart}
use Rattle.vga_c.specs.declared.state.Beam.{Beam}
use Rattle.vga_c.specs.Handle.{HandleState, machine_after_owed_dots}
use Rattle.vga_c.specs.State.{flag}
use Rattle.vga_c.specs.Status.{bad_argument_status}

-- the beam whose numbers the caller gives; how many rows are drawn does not matter
abbrev pub given_beam : Beam → CrtcBeam
given_beam b = record {
  frame = b.frame;
  line = b.line;
  character = b.character;
  dot = b.dot;
  base = b.base;
  scan = b.scan;
  half = not (b.half == 0);
  split = not (b.split == 0);
}

-- what text makes of a dot; 0 in graphics
abbrev pub text_part : Option TextTrace → TextPart
text_part None = record {
  is_text = 0;
  character = 0;
  attribute = 0;
  map = 0;
  glyph_row = 0;
  is_cursor = 0;
  is_blinked_away = 0;
  is_underlined = 0;
  is_glyph_dot = 0;
  is_foreground = 0;
}
text_part (Some text) = record {
  is_text = 1;
  character = text.cell.character;
  attribute = text.cell.attribute;
  map = text.map;
  glyph_row = text.glyph_row;
  is_cursor = flag text.is_cursor;
  is_blinked_away = flag text.is_blinked_away;
  is_underlined = flag text.is_underlined;
  is_glyph_dot = flag text.is_glyph_dot;
  is_foreground = flag text.is_foreground;
}

-- where the glyph's row is in plane 2; 0 in graphics
abbrev pub glyph_address : Option TextTrace → ℕ
glyph_address None = 0
glyph_address (Some text) = text.glyph_address

-- how the palette gives the number of the colour; 0 in 256 colours
abbrev pub palette_part : Option PaletteTrace → PalettePart
palette_part None = record {
  has_palette = 0;
  nibble = 0;
  register = 0;
  value = 0;
  is_colour_select_wide = 0;
  middle = 0;
  high = 0;
}
palette_part (Some palette) = record {
  has_palette = 1;
  nibble = palette.nibble;
  register = palette.register;
  value = palette.value;
  is_colour_select_wide = flag palette.is_colour_select_wide;
  middle = palette.middle;
  high = palette.high;
}

-- where the colour of a dot comes from: what is told of it in the core, with numbers for flags
abbrev pub dot_source_of : DotTrace → DotSource
dot_source_of t = record {
  counter = t.source.counter;
  address = t.address;
  glyph_address = glyph_address t.text;
  is_display = flag t.is_display;
  panning = t.panning_shift;
  dot = t.source.dot;
  bytes = t.bytes;
  text = text_part t.text;
  palette = palette_part t.palette;
  is_palette_shown = flag t.is_palette_shown;
  number = t.number;
  mask = t.mask;
  entry = t.entry;
  is_screen_off = flag t.is_screen_off;
  colour = record {
    red = slice_index t.colour 0;
    green = slice_index t.colour 1;
    blue = slice_index t.colour 2;
  };
}

-- the beam is one of the adapter's, and this is told of the dot there
abbrev pub IsDotSourceTold : CardState → Beam → DotSource → ℕ → Type 0
IsDotSourceTold c beam after status = IsBeam (given_beam beam)
    × ((trace : DotTrace) × IsDotTrace (display_with_beam c (given_beam beam)) trace
    × (after ≡ dot_source_of trace) × (status ≡ 0))

-- a number of the beam is out of its bounds, and nothing is told
abbrev pub IsBeamRefused : Beam → DotSource → DotSource → ℕ → Type 0
IsBeamRefused beam before after status = (IsBeam (given_beam beam) → ⊥) × (after ≡ before)
    × (status ≡ bad_argument_status)

-- where the colour of the dot at a beam comes from, if there is such a beam
abbrev pub TellsDotSource : CardState → Beam → DotSource → DotSource → ℕ → Type 0
TellsDotSource c beam before after status = IsDotSourceTold c beam after status
    ⊎ IsBeamRefused beam before after status

-- an open card tells where the colour of a dot comes from
abbrev pub OpenCardTellsDotSource : HandleState → Beam → DotSource → DotSource → ℕ → Type 0
OpenCardTellsDotSource old beam before after status = old.is_open ≡ true →
    TellsDotSource (machine_after_owed_dots old).card beam before after status
