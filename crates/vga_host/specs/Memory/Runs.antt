-- Runs of writes, reads and moves: one byte at each address of a run, in ascending order.
-- From the IBM PS/2 Hardware Interface Technical Reference, Video Subsystems: no write to memory
-- changes a register or a latch.
use Rattle.std.specs.Prelude.{List}
use Rattle.std.specs.Prelude.{ℕ, zero, suc, ◌+◌, ◌%◌, ◌==◌}
use Rattle.std.specs.Prelude.{if◌then◌else◌, slice_set}
use Rattle.vga_bits.specs.Four.{Four, four_by_plane, of_plane}
use Rattle.vga_host.specs.Host.{HostState}
use Rattle.vga_host.specs.Memory.Address.{is_decoded, window_offset}
use Rattle.vga_host.specs.Memory.Address.{plane_offset, is_reached}
use Rattle.vga_host.specs.Memory.Write.{after_put}
use Rattle.vga_host.specs.Memory.Read.{read_byte, after_get}

-- the host path over other memory
abbrev pub with_memory : HostState → Four (List ℕ) → HostState
with_memory h m = record h { memory = m }

-- the host path after a write to any address: a write that is not decoded changes nothing
abbrev pub after_put_if_decoded : HostState → ℕ → ℕ → ℕ → HostState
after_put_if_decoded h misc address v =
    if is_decoded h misc address then after_put h address v else h

-- n writes from number i on: write i is of byte f i, to the address i after the first
abbrev pub after_puts : ℕ → ℕ → (ℕ → ℕ) → ℕ → ℕ → HostState → HostState
after_puts misc first f zero i h = h
after_puts misc first f (suc n) i h = after_puts misc first f n (i + 1)
    (after_put_if_decoded h misc (first + i) (f i))

-- a write that leaves these four bytes in the planes that it reaches, at any address
abbrev pub after_put_of_plane_bytes : HostState → ℕ → ℕ → Four ℕ → HostState
after_put_of_plane_bytes h misc address bytes =
    if is_decoded h misc address
    then record h {
      memory = four_by_plane (λ p. if is_reached h (window_offset h address) p
          then slice_set (of_plane h.memory p) (plane_offset h (window_offset h address))
          (of_plane bytes p) else of_plane h.memory p);
    }
    else h

-- the host path after a read of any address: a read that is not decoded changes nothing
abbrev pub after_get_if_decoded : HostState → ℕ → ℕ → HostState
after_get_if_decoded h misc address = if is_decoded h misc address then after_get h address else h

-- the byte that a read of any address gives: FF if the address is not decoded
abbrev pub byte_read_or_ff : HostState → ℕ → ℕ → ℕ
byte_read_or_ff h misc address = if is_decoded h misc address then read_byte h address else 0xFF

-- n reads from number i on, of the address i after the first
abbrev pub after_gets : ℕ → ℕ → ℕ → ℕ → HostState → HostState
after_gets misc first zero i h = h
after_gets misc first (suc n) i h = after_gets misc first n (i + 1)
    (after_get_if_decoded h misc (first + i))

-- a byte is read at one address, and written at another
abbrev pub after_move_if_decoded : HostState → ℕ → ℕ → ℕ → HostState
after_move_if_decoded h misc from to =
    after_put_if_decoded (after_get_if_decoded h misc from) misc to (byte_read_or_ff h misc from)

-- n such moves from number i on: move i is from the address i after the first, to that i after the
-- other
abbrev pub after_moves : ℕ → ℕ → ℕ → ℕ → ℕ → HostState → HostState
after_moves misc from to zero i h = h
after_moves misc from to (suc n) i h = after_moves misc from to n (i + 1)
    (after_move_if_decoded h misc (from + i) (to + i))

-- two bytes in turn
abbrev pub even_or_odd_byte : ℕ → ℕ → ℕ → ℕ
even_or_odd_byte even odd w = if w % 2 == 0 then even else odd
