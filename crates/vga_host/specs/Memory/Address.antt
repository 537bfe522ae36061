-- What an address means: whether it is decoded, its offset in the window, its offset in a plane,
-- and the planes that a write there reaches.
-- From the IBM PS/2 Hardware Interface Technical Reference, Video Subsystems: "Miscellaneous
-- Register" (memory map), "Memory Mode Register" and "Map Mask Register".
use Rattle.std.specs.Prelude.{ℕ, zero, suc, ◌+◌, ◌-◌, ◌*◌, ◌/◌, ◌%◌, ◌==◌, ◌&&◌, ◌||◌, nat_lt, nat_le}
use Rattle.std.specs.Prelude.{if◌then◌else◌, Bool}
use Rattle.vga_bits.specs.Bits.{is_set}
use Rattle.vga_host.specs.Host.{HostState}
use Rattle.vga_host.specs.Sequencer.{is_in_map_mask, is_odd_even_off, is_chain_four}
use Rattle.vga_host.specs.Graphics.{is_chain_odd_even, memory_map}

-- the miscellaneous output register, bit 1: the display memory answers the processor
abbrev pub is_memory_enabled : ℕ → Bool
is_memory_enabled misc = is_set misc 1

-- the first address of the window: A0000, A0000, B0000 or B8000
abbrev pub window_start : HostState → ℕ
window_start h = if nat_lt (memory_map h) 2 then 0xA0000 else if memory_map h == 2 then 0xB0000
    else 0xB8000

-- how many addresses the window has: 128, 64, 32 or 32 KiB
abbrev pub window_len : HostState → ℕ
window_len h = if memory_map h == 0 then 0x20000 else if memory_map h == 1 then 0x10000 else 0x8000

-- the address is in the window, and the display memory answers the processor
abbrev pub is_decoded : HostState → ℕ → ℕ → Bool
is_decoded h misc address =
    is_memory_enabled misc && (nat_le (window_start h) address
    && nat_lt address (window_start h + window_len h))

-- how many of n addresses from the first on are decoded
unfoldable pub decoded_among : HostState → ℕ → ℕ → ℕ → ℕ
decoded_among h misc first zero = 0
decoded_among h misc first (suc n) = decoded_among h misc first n + (if is_decoded h misc (first + n)
    then 1 else 0)

-- the address less the window's first, modulo 65,536
abbrev pub window_offset : HostState → ℕ → ℕ
window_offset h address = (address - window_start h) % 65536

-- the offset in each plane, from the offset in the window: address bits that pick a plane are 0 in
-- it
abbrev pub plane_offset : HostState → ℕ → ℕ
plane_offset h w =
    if is_chain_four h then w / 4 * 4
    else if is_chain_odd_even h then w / 2 * 2
    else w

-- whether the address bits select plane p for a write at an offset in the window
abbrev pub is_plane_addressed : HostState → ℕ → ℕ → Bool
is_plane_addressed h w p =
    if is_chain_four h then p == w % 4
    else is_odd_even_off h || (p % 2 == w % 2)

-- whether a write at an offset in the window reaches plane p
abbrev pub is_reached : HostState → ℕ → ℕ → Bool
is_reached h w p = is_in_map_mask h p && is_plane_addressed h w p
