-- The fields of the graphics controller's registers, in the order of the registers.
-- From the IBM PS/2 Hardware Interface Technical Reference, Video Subsystems, "Graphics Controller
-- Registers".
use Rattle.std.specs.Prelude.{ℕ, ◌&&◌, Bool, slice_index}
use Rattle.std.specs.Int.{bit_at}
use Rattle.vga_bits.specs.Bits.{is_set, field}
use Rattle.vga_host.specs.Host.{HostState}

-- set/reset, bits 3 to 0: the bit that fills plane p
abbrev pub set_reset : HostState → ℕ → ℕ
set_reset h p = bit_at (slice_index h.gfx 0) p

-- enable set/reset, bits 3 to 0: in write mode 0, plane p takes its set/reset bit
abbrev pub is_set_reset_enabled : HostState → ℕ → Bool
is_set_reset_enabled h p = is_set (slice_index h.gfx 1) p

-- colour compare, bits 3 to 0: the bit that plane p is compared with
abbrev pub colour_compare : HostState → ℕ → ℕ
colour_compare h p = bit_at (slice_index h.gfx 2) p

-- data rotate, bits 2 to 0: by how many bits a written byte is rotated right
abbrev pub rotate_count : HostState → ℕ
rotate_count h = field (slice_index h.gfx 3) 2 0

-- data rotate, bits 4 and 3: 0 replaces, 1 is AND, 2 OR and 3 XOR with the latch
abbrev pub function_select : HostState → ℕ
function_select h = field (slice_index h.gfx 3) 4 3

-- read map select, bits 1 and 0: the plane that is read
abbrev pub read_map_select : HostState → ℕ
read_map_select h = field (slice_index h.gfx 4) 1 0

-- read map select, bit 1: the pair of planes that is read where even and odd addresses are kept
-- apart
abbrev pub read_map_pair : HostState → ℕ
read_map_pair h = bit_at (slice_index h.gfx 4) 1

-- graphics mode, bits 1 and 0: how a byte written becomes data
abbrev pub write_mode : HostState → ℕ
write_mode h = field (slice_index h.gfx 5) 1 0

-- graphics mode, bit 3: a read compares colours
abbrev pub is_read_compare : HostState → Bool
is_read_compare h = is_set (slice_index h.gfx 5) 3

-- graphics mode, bit 4: even and odd addresses are kept apart on reads
abbrev pub is_odd_even_read : HostState → Bool
is_odd_even_read h = is_set (slice_index h.gfx 5) 4

-- graphics mode, bit 6: each byte of a plane is a colour of 256, which two dots show
abbrev pub is_shift_256 : HostState → Bool
is_shift_256 h = is_set (slice_index h.gfx 5) 6

-- miscellaneous, bit 0: dots come from the planes, and not from glyphs of characters
abbrev pub is_graphics : HostState → Bool
is_graphics h = is_set (slice_index h.gfx 6) 0

-- dots are bytes of 256 colours
abbrev pub is_256_colours : HostState → Bool
is_256_colours h = is_graphics h && is_shift_256 h

-- miscellaneous, bit 1: the lowest bit of an address is left out of its offset in each plane
abbrev pub is_chain_odd_even : HostState → Bool
is_chain_odd_even h = is_set (slice_index h.gfx 6) 1

-- miscellaneous, bits 3 and 2: which addresses the display memory decodes
abbrev pub memory_map : HostState → ℕ
memory_map h = field (slice_index h.gfx 6) 3 2

-- colour don't care, bits 3 to 0: plane p is compared
abbrev pub is_compared : HostState → ℕ → Bool
is_compared h p = is_set (slice_index h.gfx 7) p

-- bit mask: bit i of each plane may change
abbrev pub bit_mask : HostState → ℕ → ℕ
bit_mask h i = bit_at (slice_index h.gfx 8) i
