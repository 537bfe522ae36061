-- The ports and registers that services use by name, and the values that they write there.
-- From the IBM PS/2 Hardware Interface Technical Reference, Video Subsystems, "Sequencer
-- Registers", "Graphics Controller Registers", "CRT Controller Registers" and "Attribute Controller
-- Registers".
use Rattle.std.specs.Prelude.{ℕ}

-- the attribute controller's port for indexes and for writes
abbrev pub attribute_port : ℕ
attribute_port = 0x3C0

-- the attribute controller's port for reads
abbrev pub attribute_read_port : ℕ
attribute_read_port = 0x3C1

-- the port at which the miscellaneous output register is written
abbrev pub miscellaneous_output_port : ℕ
miscellaneous_output_port = 0x3C2

-- the port of the sequencer's index; its data are at the next port
abbrev pub sequencer_port : ℕ
sequencer_port = 0x3C4

-- the port of the graphics controller's index; its data are at the next port
abbrev pub graphics_port : ℕ
graphics_port = 0x3CE

-- the port of the DAC's mask
abbrev pub dac_mask_port : ℕ
dac_mask_port = 0x3C6

-- the port of the DAC's index for reads
abbrev pub dac_read_index_port : ℕ
dac_read_index_port = 0x3C7

-- the port of the DAC's index for writes
abbrev pub dac_write_index_port : ℕ
dac_write_index_port = 0x3C8

-- the port of the DAC's data
abbrev pub dac_data_port : ℕ
dac_data_port = 0x3C9

-- the sequencer's register that selects the planes to be written
abbrev pub map_mask_index : ℕ
map_mask_index = 0x02

-- map mask: all four planes
abbrev pub all_planes_map_mask : ℕ
all_planes_map_mask = 0x0F

-- map mask: planes 0 and 1, with the characters and attributes of text
abbrev pub text_planes_map_mask : ℕ
text_planes_map_mask = 0x03

-- map mask: plane 2, with the glyphs of text
abbrev pub glyph_plane_map_mask : ℕ
glyph_plane_map_mask = 0x04

-- the sequencer's register that says which planes an address reaches
abbrev pub memory_mode_index : ℕ
memory_mode_index = 0x04

-- memory mode: each address reaches all planes
abbrev pub sequential_memory_mode : ℕ
sequential_memory_mode = 0x06

-- memory mode: even addresses reach planes 0 and 2, odd ones planes 1 and 3
abbrev pub odd_and_even_memory_mode : ℕ
odd_and_even_memory_mode = 0x02

-- the graphics controller's register of the function that combines written data with the latches
abbrev pub data_rotate_index : ℕ
data_rotate_index = 0x03

-- data rotate: data replace what was there
abbrev pub replace_function : ℕ
replace_function = 0x00

-- data rotate: data are combined with the latches by XOR
abbrev pub xor_function : ℕ
xor_function = 0x18

-- the graphics controller's register of the plane that is read
abbrev pub read_map_select_index : ℕ
read_map_select_index = 0x04

-- the graphics controller's register of the write mode and the read mode
abbrev pub graphics_mode_index : ℕ
graphics_mode_index = 0x05

-- graphics mode: write mode 0 and read mode 0, with which bytes go to planes and come from one
abbrev pub write_and_read_mode_0 : ℕ
write_and_read_mode_0 = 0x00

-- graphics mode: write mode 0 and read mode 0, and even and odd addresses are read from different
-- planes
abbrev pub odd_and_even_graphics_mode : ℕ
odd_and_even_graphics_mode = 0x10

-- graphics mode: write mode 1, which copies the latches
abbrev pub latch_copy_mode : ℕ
latch_copy_mode = 0x01

-- graphics mode: write mode 2, which gives each plane its bit of a colour
abbrev pub colour_write_mode : ℕ
colour_write_mode = 0x02

-- graphics mode: read mode 1, which compares planes with a colour
abbrev pub colour_compare_mode : ℕ
colour_compare_mode = 0x08

-- the graphics controller's register that selects the memory's window
abbrev pub miscellaneous_index : ℕ
miscellaneous_index = 0x06

-- miscellaneous: 64 KiB at A0000, where each address is an offset in a plane
abbrev pub miscellaneous_value_for_a0000_window : ℕ
miscellaneous_value_for_a0000_window = 0x04

-- the graphics controller's register that selects the bits to be written
abbrev pub bit_mask_index : ℕ
bit_mask_index = 0x08

-- bit mask: all eight bits
abbrev pub all_bits : ℕ
all_bits = 0xFF

-- the CRT controller's register of the height of characters
abbrev pub maximum_scan_line_index : ℕ
maximum_scan_line_index = 0x09

-- the CRT controller's register of the cursor's first scan line
abbrev pub cursor_start_index : ℕ
cursor_start_index = 0x0A

-- the CRT controller's register of the cursor's last scan line
abbrev pub cursor_end_index : ℕ
cursor_end_index = 0x0B

-- the CRT controller's register of the start address's high byte; the low byte's is the next
abbrev pub start_address_high_index : ℕ
start_address_high_index = 0x0C

-- the CRT controller's register of the cursor address's high byte; the low byte's is the next
abbrev pub cursor_address_high_index : ℕ
cursor_address_high_index = 0x0E

-- the CRT controller's register of the vertical retrace's end; its bit 7 protects registers 0 to 7
abbrev pub vertical_retrace_end_index : ℕ
vertical_retrace_end_index = 0x11

-- the CRT controller's register of the last line of the display
abbrev pub vertical_display_end_index : ℕ
vertical_display_end_index = 0x12

-- the CRT controller's register of the scan line of underlines
abbrev pub underline_location_index : ℕ
underline_location_index = 0x14

-- the attribute controller's overscan register
abbrev pub overscan_index : ℕ
overscan_index = 0x11

-- the bit beside an index of the attribute controller with which the palette is shown
abbrev pub palette_shown_bit : ℕ
palette_shown_bit = 0x20

-- the attribute controller's mode control register
abbrev pub attribute_mode_control_index : ℕ
attribute_mode_control_index = 0x10

-- mode control: every bit except bit 3, which makes attributes blink
abbrev pub all_but_blink_bit : ℕ
all_but_blink_bit = 0xF7
