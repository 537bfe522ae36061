-- Function 11: loading glyphs of text, which also sets the height of characters.
-- From the IBM PS/2 and PC BIOS Interface Technical Reference, "Interrupt 10H - Video", (AH) = 11H;
-- the refusals and the order of the cycles are this adapter's choice.
use Rattle.std.specs.Prelude.{ℕ, ◌≡◌, ◌≤◌, ◌+◌, ◌-◌, ◌*◌, ◌==◌, ◌&&◌, nat_le, true, false}
use Rattle.std.specs.Prelude.{if◌then◌else◌, List, slice_index, Option, Some, None}
use Rattle.vga_bits.specs.declared.refusal.Refusal.{Refusal}
use Rattle.vga_bits.specs.declared.refusal.Refusal.TheVariants.{WrongKind, CountPast}
use Rattle.bios_modes.specs.declared.modes.ModeRow.{ModeRow}
use Rattle.bios_modes.specs.Fonts.{FontSet}
use Rattle.bios_services.specs.declared.regs.Regs.{Regs}
use Rattle.bios_services.specs.declared.glyph_load.GlyphLoad.{GlyphLoad}
use Rattle.bios_services.specs.Plan.{Plan, ◌>>◌}
use Rattle.bios_services.specs.Registers.{high, low}
use Rattle.bios_services.specs.Cycles.{write_crtc}
use Rattle.bios_modes.specs.Kinds.{is_text}
use Rattle.bios_services.specs.ModeSet.{write_font_plan}
use Rattle.bios_services.specs.Cursor.{write_crtc_word_plan}
use Rattle.bios_services.specs.Glyphs.{glyph_line}
use Rattle.bios_services.specs.Reasons.{◌or◌, refuse_unless, refuse_or_wrong_block}
use Rattle.bios_services.specs.VideoRegisters.{miscellaneous_index, maximum_scan_line_index}
use Rattle.bios_services.specs.VideoRegisters.{cursor_start_index}
use Rattle.bios_services.specs.VideoRegisters.{vertical_display_end_index, underline_location_index}
use Rattle.bios_services.specs.VideoRegisters.{start_address_high_index, cursor_address_high_index}

-- a load of all characters of the font of this height
abbrev pub whole_font : ℕ → GlyphLoad
whole_font height = record { height = height; first = 0; count = 256; is_block = false }

-- the load that AL names: 10 loads glyphs from the block, of BH scan lines each, for CX characters
-- from DX on; 11, 12 and 14 load the fonts of 14, 8 and 16 scan lines
abbrev pub load_of : Regs → ℕ → Option GlyphLoad
load_of r al =
    if al == 0x10 then Some (record {
      height = high r.bx;
      first = r.dx;
      count = r.cx;
      is_block = true;
    })
    else if al == 0x11 then Some (whole_font 14)
    else if al == 0x12 then Some (whole_font 8)
    else if al == 0x14 then Some (whole_font 16)
    else None

-- the load that a call asks for, if it does; BL names the map of glyphs, of which there is one
abbrev pub glyph_load_of : Regs → Option GlyphLoad
glyph_load_of r = if (high r.ax == 0x11) && (low r.bx == 0x00) then load_of r (low r.ax) else None

-- how many bytes the glyphs of a load have
abbrev pub glyphs_len : GlyphLoad → ℕ
glyphs_len load = load.height * load.count

-- the glyphs of a load are there: no higher than 16 scan lines, of characters up to FF, and all in
-- the block of this length if they come from one
pub record AreGlyphsThere (load : GlyphLoad) (len : ℕ) : Type 0 where
  pub height : load.height ≤ 16
  pub last : load.first + load.count ≤ 256
  pub whole : load.is_block ≡ true → len ≡ glyphs_len load

-- how many bytes the block of a load has; None if it reads no block
abbrev pub glyphs_block_len : GlyphLoad → Option ℕ
glyphs_block_len load = if load.is_block then Some (glyphs_len load) else None

-- why a load is refused whatever its block: the mode is graphics, or a character is above FF
abbrev pub load_refusal_besides_block : GlyphLoad → ℕ → Option Refusal
load_refusal_besides_block load mode =
    refuse_unless (is_text mode) WrongKind
    or refuse_unless (nat_le (load.first + load.count) 256) CountPast

-- why a load is refused with a block of this length
abbrev pub load_refusal : GlyphLoad → ℕ → ℕ → Option Refusal
load_refusal load mode len = refuse_or_wrong_block (load_refusal_besides_block load mode) (glyphs_block_len load) len

-- scan line r of character c: a byte of the block or of the font
abbrev pub loaded_line : FontSet → GlyphLoad → List ℕ → ℕ → ℕ → ℕ
loaded_line fonts load block c r =
    if load.is_block then slice_index block (load.height * (c - load.first) + r)
    else glyph_line fonts load.height c r

-- the glyphs go to plane 2; the CRT controller gets the height, the cursor's type, the last line
-- and the underline of this row, and shows page 0 with the cursor in its upper left corner
unfoldable pub load_plan : FontSet → GlyphLoad → List ℕ → ModeRow → Plan (Unit {0})
load_plan fonts load block row = do
  write_font_plan (loaded_line fonts load block) load.height load.count load.first
      (slice_index row.graphics miscellaneous_index)
  write_crtc row.crtc_address maximum_scan_line_index (slice_index row.crtc maximum_scan_line_index)
  write_crtc_word_plan row.crtc_address cursor_start_index row.cursor_type
  write_crtc row.crtc_address vertical_display_end_index (slice_index row.crtc
      vertical_display_end_index)
  write_crtc row.crtc_address underline_location_index (slice_index row.crtc
      underline_location_index)
  write_crtc_word_plan row.crtc_address start_address_high_index 0
  write_crtc_word_plan row.crtc_address cursor_address_high_index 0
