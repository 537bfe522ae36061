-- The fields of the sequencer's registers, in the order of the registers.
-- From the IBM PS/2 Hardware Interface Technical Reference, Video Subsystems, "Sequencer
-- Registers".
use Rattle.std.specs.Prelude.{ℕ, ◌+◌, ◌*◌, Bool, if◌then◌else◌, slice_index}
use Rattle.std.specs.Int.{bit_at}
use Rattle.vga_bits.specs.Bits.{is_set, field}
use Rattle.vga_host.specs.Host.{HostState}

-- clocking mode, bit 0: a character has eight dots, and not nine
abbrev pub is_eight_dots : HostState → Bool
is_eight_dots h = is_set (slice_index h.seq 1) 0

-- how many dots a character has: 8 or 9
abbrev pub character_width : HostState → ℕ
character_width h = if is_eight_dots h then 8 else 9

-- clocking mode, bit 3: the dot clock runs at half its rate
abbrev pub is_clock_halved : HostState → Bool
is_clock_halved h = is_set (slice_index h.seq 1) 3

-- clocking mode, bit 5: the screen is off
abbrev pub is_screen_off : HostState → Bool
is_screen_off h = is_set (slice_index h.seq 1) 5

-- map mask, bits 3 to 0: plane p may be written
abbrev pub is_in_map_mask : HostState → ℕ → Bool
is_in_map_mask h p = is_set (slice_index h.seq 2) p

-- character map select, bits 3 and 2, and bit 5 as the third: the map of characters whose attribute
-- has bit 3
abbrev pub character_map_a : HostState → ℕ
character_map_a h = field (slice_index h.seq 3) 3 2 + 4 * bit_at (slice_index h.seq 3) 5

-- character map select, bits 1 and 0, and bit 4 as the third: the map of all other characters
abbrev pub character_map_b : HostState → ℕ
character_map_b h = field (slice_index h.seq 3) 1 0 + 4 * bit_at (slice_index h.seq 3) 4

-- memory mode, bit 2: even and odd addresses are not kept apart on writes
abbrev pub is_odd_even_off : HostState → Bool
is_odd_even_off h = is_set (slice_index h.seq 4) 2

-- memory mode, bit 3: the two low bits of an address pick the plane
abbrev pub is_chain_four : HostState → Bool
is_chain_four h = is_set (slice_index h.seq 4) 3
