-- A write of a byte to display memory, one bit of one plane at a time.
-- From the IBM PS/2 Hardware Interface Technical Reference, Video Subsystems: "Graphics Mode
-- Register" (write modes), "Set/Reset Register", "Enable Set/Reset Register", "Data Rotate
-- Register" and "Bit Mask Register".
use Rattle.std.specs.Prelude.{ℕ, ◌≡◌, ◌+◌, ◌%◌, ◌<◌, ◌==◌, if◌then◌else◌, min, max, List}
use Rattle.std.specs.Prelude.{slice_set, false}
use Rattle.std.specs.Int.{bit_at}
use Rattle.vga_bits.specs.Bits.{byte_of_bits}
use Rattle.vga_bits.specs.Four.{Four, four_by_plane, of_plane}
use Rattle.vga_host.specs.Host.{HostState}
use Rattle.vga_host.specs.Graphics.{set_reset, is_set_reset_enabled, rotate_count, function_select}
use Rattle.vga_host.specs.Graphics.{write_mode, bit_mask}
use Rattle.vga_host.specs.Memory.Address.{window_offset, plane_offset, is_reached}

-- bit i of the byte, rotated right
abbrev pub rotated_write_bit : HostState → ℕ → ℕ → ℕ
rotated_write_bit h b i = bit_at b ((i + rotate_count h) % 8)

-- a data bit combined with a latch bit: function 0 keeps the data bit, 1 is AND, 2 is OR, 3 is XOR
abbrev pub combined_by_function : ℕ → ℕ → ℕ → ℕ
combined_by_function function d l = if function == 0 then d else if function == 1 then min d l
    else if function == 2 then max d l else (d + l) % 2

-- the data for bit i of plane p in write modes 0, 2 and 3, before the function and the mask:
-- the rotated byte or the plane's set/reset bit, bit p of the byte, the plane's set/reset bit
abbrev pub data_bit_of_write : HostState → ℕ → ℕ → ℕ → ℕ
data_bit_of_write h b p i =
    if write_mode h == 0 then (if is_set_reset_enabled h p then set_reset h p
    else rotated_write_bit h b i)
    else if write_mode h == 2 then bit_at b p
    else set_reset h p

-- the mask for bit i in write modes 0, 2 and 3: that of the bit mask, and in mode 3 of the rotated
-- byte too
abbrev pub mask_bit : HostState → ℕ → ℕ → ℕ
mask_bit h b i =
    if write_mode h == 3 then min (bit_mask h i) (rotated_write_bit h b i) else bit_mask h i

-- the data bit, combined with the latch bit by the function
unfoldable pub combined_bit : HostState → ℕ → ℕ → ℕ → ℕ
combined_bit h b p i = combined_by_function (function_select h) (data_bit_of_write h b p i)
    (bit_at (of_plane h.latches p) i)

-- what bit i of plane p becomes where a write of byte b reaches it: the latch bit in write mode 1
-- and where the mask is 0, else the data bit and the latch bit by the function
unfoldable pub written_bit : HostState → ℕ → ℕ → ℕ → ℕ
written_bit h b p i =
    if write_mode h == 1 then bit_at (of_plane h.latches p) i
    else if mask_bit h b i == 0 then bit_at (of_plane h.latches p) i
    else combined_bit h b p i

-- the byte of plane p that these bits make
abbrev pub written_byte : HostState → ℕ → ℕ → ℕ
written_byte h b p = byte_of_bits (λ i. written_bit h b p i)

-- A write stores its byte unchanged: write mode 0, no rotation, no function, no plane that takes
-- its set/reset bit, and a bit mask of ones.
pub record StoresByteUnchanged (h : HostState) : Type 0 where
  pub mode : write_mode h ≡ 0
  pub rotate : rotate_count h ≡ 0
  pub function : function_select h ≡ 0
  pub own : (p : ℕ) → p < 4 → is_set_reset_enabled h p ≡ false
  pub mask : (i : ℕ) → i < 8 → bit_mask h i ≡ 1

-- the memory after a write of byte b at an offset in the window: one byte of each plane that it
-- reaches
abbrev pub memory_after_put : HostState → ℕ → ℕ → Four (List ℕ)
memory_after_put h w b =
    four_by_plane (λ p. if is_reached h w p then slice_set (of_plane h.memory p) (plane_offset h w)
    (written_byte h b p) else of_plane h.memory p)

-- the host path after a write to a decoded address: latches, registers and indexes stay
abbrev pub after_put : HostState → ℕ → ℕ → HostState
after_put h address b = record h { memory = memory_after_put h (window_offset h address) b }
