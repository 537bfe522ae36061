-- Setting a mode: every register, the palette, the font of a text mode, and the memory.
-- From the IBM PS/2 and PC BIOS Interface Technical Reference, "Interrupt 10H - Video", (AH) = 00H;
-- the order of the cycles is this adapter's choice.
use Rattle.std.specs.Prelude.{ℕ, ◌+◌, ◌*◌, ◌%◌, ◌==◌, if◌then◌else◌, Bool, List, slice_index}
use Rattle.std.specs.Prelude.{bit_and}
use Rattle.bios_modes.specs.declared.modes.ModeRow.{ModeRow}
use Rattle.bios_modes.specs.declared.palette.Palette.{Palette}
use Rattle.bios_modes.specs.Kinds.{is_text_kind}
use Rattle.bios_modes.specs.Palette.{palette_entry}
use Rattle.bios_modes.specs.Fonts.{FontSet, glyph_row}
use Rattle.bios_services.specs.Plan.{Plan, Done, ◌>>◌, out, put, each}
use Rattle.bios_services.specs.Cycles.{write_sequencer, write_graphics, write_crtc}
use Rattle.bios_services.specs.Cycles.{write_registers_from_0, write_attribute_registers}
use Rattle.bios_services.specs.Cycles.{reset_attribute_flip_flop, show_palette}
use Rattle.bios_services.specs.VideoRegisters.{miscellaneous_output_port, sequencer_port}
use Rattle.bios_services.specs.VideoRegisters.{graphics_port}
use Rattle.bios_services.specs.VideoRegisters.{dac_mask_port, dac_write_index_port}
use Rattle.bios_services.specs.VideoRegisters.{dac_data_port, all_bits}
use Rattle.bios_services.specs.VideoRegisters.{vertical_retrace_end_index, map_mask_index}
use Rattle.bios_services.specs.VideoRegisters.{glyph_plane_map_mask}
use Rattle.bios_services.specs.VideoRegisters.{text_planes_map_mask, memory_mode_index, sequential_memory_mode}
use Rattle.bios_services.specs.VideoRegisters.{odd_and_even_memory_mode, graphics_mode_index}
use Rattle.bios_services.specs.VideoRegisters.{write_and_read_mode_0}
use Rattle.bios_services.specs.VideoRegisters.{odd_and_even_graphics_mode, miscellaneous_index}
use Rattle.bios_services.specs.VideoRegisters.{miscellaneous_value_for_a0000_window}

-- all registers are written; before those of the CRT controller, their protection ends
unfoldable pub write_registers_plan : ModeRow → Plan (Unit {0})
write_registers_plan row = do
  out miscellaneous_output_port row.misc
  write_registers_from_0 sequencer_port row.sequencer
  write_crtc row.crtc_address vertical_retrace_end_index
      (bit_and (slice_index row.crtc vertical_retrace_end_index)
      0x7F)
  write_registers_from_0 row.crtc_address row.crtc
  write_registers_from_0 graphics_port row.graphics
  reset_attribute_flip_flop row.crtc_address
  write_attribute_registers row.attribute
  show_palette row.crtc_address

-- red, green and blue of the DAC's next entry are written
unfoldable pub write_dac_entry_plan : List ℕ → Plan (Unit {0})
write_dac_entry_plan colour = do
  out dac_data_port (slice_index colour 0)
  out dac_data_port (slice_index colour 1)
  out dac_data_port (slice_index colour 2)

-- the DAC's mask and the first n entries of a palette are written
unfoldable pub mask_and_palette_plan : Palette → ℕ → Plan (Unit {0})
mask_and_palette_plan palette n = do
  out dac_mask_port all_bits
  out dac_write_index_port 0x00
  each (λ i. write_dac_entry_plan (palette_entry palette i)) n 0

-- the lines of character c go to plane 2
unfoldable pub write_glyph_plan : (ℕ → ℕ → ℕ) → ℕ → ℕ → Plan (Unit {0})
write_glyph_plan line height c = each (λ r. put (0xA0000 + 32 * c + r) (line c r)) height 0

-- the lines of n characters go to plane 2, from character `first` on
unfoldable pub write_glyphs_plan : (ℕ → ℕ → ℕ) → ℕ → ℕ → ℕ → Plan (Unit {0})
write_glyphs_plan line height n first = each (write_glyph_plan line height) n first

-- glyphs go to plane 2, which is alone at A0000; then text is there again, in the window that this
-- value of graphics register 6 selects
unfoldable pub write_font_plan : (ℕ → ℕ → ℕ) → ℕ → ℕ → ℕ → ℕ → Plan (Unit {0})
write_font_plan line height n first window = do
  write_sequencer map_mask_index glyph_plane_map_mask
  write_sequencer memory_mode_index sequential_memory_mode
  write_graphics graphics_mode_index write_and_read_mode_0
  write_graphics miscellaneous_index miscellaneous_value_for_a0000_window
  write_glyphs_plan line height n first
  write_sequencer map_mask_index text_planes_map_mask
  write_sequencer memory_mode_index odd_and_even_memory_mode
  write_graphics graphics_mode_index odd_and_even_graphics_mode
  write_graphics miscellaneous_index window

-- byte w of blank cells: the character 20 and the attribute 07 by turns
abbrev pub byte_of_blank_cells : ℕ → ℕ
byte_of_blank_cells w = if w % 2 == 0 then 0x20 else 0x07

-- n bytes of blank cells are written from an address on
unfoldable pub write_blanks_plan : ℕ → ℕ → Plan (Unit {0})
write_blanks_plan base n = each (λ w. put (base + w) (byte_of_blank_cells w)) n 0

-- n bytes of 0 are written from A0000 on
unfoldable pub clear_graphics_memory_plan : ℕ → Plan (Unit {0})
clear_graphics_memory_plan n = each (λ w. put (0xA0000 + w) 0) n 0

-- what a text mode writes besides registers and palette: the font, and blank cells
unfoldable pub write_text_memory_plan : ModeRow → Bool → List ℕ → Plan (Unit {0})
write_text_memory_plan row keeps font = do
  write_font_plan (glyph_row 16 font) 16 256 0 (slice_index row.graphics miscellaneous_index)
  if keeps then Done tt else write_blanks_plan row.base 0x8000

-- what a mode writes besides registers and palette; a graphics mode clears its memory
unfoldable pub write_mode_memory_plan : ModeRow → Bool → List ℕ → Plan (Unit {0})
write_mode_memory_plan row keeps font =
    if is_text_kind row.kind then write_text_memory_plan row keeps font
    else if keeps then Done tt
    else clear_graphics_memory_plan 0x10000

-- a mode is set; bit 7 of AL keeps the memory
unfoldable pub mode_set_plan : ModeRow → Bool → FontSet → Plan (Unit {0})
mode_set_plan row keeps fonts = do
  write_registers_plan row
  mask_and_palette_plan row.palette 256
  write_mode_memory_plan row keeps fonts.f16
