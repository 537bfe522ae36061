-- A read of a byte of display memory, one bit at a time.
-- From the IBM PS/2 Hardware Interface Technical Reference, Video Subsystems: "Graphics Mode
-- Register" (read modes), "Read Map Select Register", "Color Compare Register" and "Color Don't
-- Care Register".
use Rattle.std.specs.Prelude.{ℕ, ◌+◌, ◌*◌, ◌%◌, ◌==◌, ◌&&◌, ◌||◌, not, if◌then◌else◌, Bool}
use Rattle.std.specs.Int.{bit_at}
use Rattle.vga_bits.specs.Bits.{byte_of_bits}
use Rattle.vga_bits.specs.Four.{Four, of_plane}
use Rattle.vga_planes.specs.Planes.{bytes_at}
use Rattle.vga_host.specs.Host.{HostState}
use Rattle.vga_host.specs.Sequencer.{is_chain_four}
use Rattle.vga_host.specs.Graphics.{colour_compare, read_map_select, read_map_pair}
use Rattle.vga_host.specs.Graphics.{is_read_compare, is_odd_even_read, is_compared}
use Rattle.vga_host.specs.Memory.Address.{window_offset, plane_offset}

-- the four bytes that a read loads into the latches: those at the address's plane offset, whatever
-- plane is read
abbrev pub loaded : HostState → ℕ → Four ℕ
loaded h address = bytes_at h.memory (plane_offset h (window_offset h address))

-- the plane that read mode 0 picks for an offset in the window
abbrev pub picked_plane : HostState → ℕ → ℕ
picked_plane h w =
    if is_chain_four h then w % 4
    else if is_odd_even_read h then 2 * read_map_pair h + w % 2
    else read_map_select h

-- whether bit i of plane p agrees in read mode 1: it equals the compare bit, or the plane is not
-- compared
abbrev pub agrees_with_compare : HostState → Four ℕ → ℕ → ℕ → Bool
agrees_with_compare h bytes p i =
    not (is_compared h p) || (bit_at (of_plane bytes p) i == colour_compare h p)

-- bit i of the byte read in read mode 1: 1 if all four planes agree
abbrev pub compared_bit : HostState → Four ℕ → ℕ → ℕ
compared_bit h bytes i = if agrees_with_compare h bytes 0 i && (agrees_with_compare h bytes 1 i
    && (agrees_with_compare h bytes 2 i && agrees_with_compare h bytes 3 i)) then 1 else 0

-- bit i of the byte that a read at an offset in the window returns, from the four bytes loaded
unfoldable pub read_bit : HostState → ℕ → Four ℕ → ℕ → ℕ
read_bit h w bytes i = if is_read_compare h then compared_bit h bytes i
    else bit_at (of_plane bytes (picked_plane h w)) i

-- the byte that a read of a decoded address returns
abbrev pub read_byte : HostState → ℕ → ℕ
read_byte h address = byte_of_bits (λ i. read_bit h (window_offset h address) (loaded h address) i)

-- the host path after a read of a decoded address: the latches hold the bytes loaded, and
-- everything else stays the same
abbrev pub after_get : HostState → ℕ → HostState
after_get h address = record h { latches = loaded h address }
