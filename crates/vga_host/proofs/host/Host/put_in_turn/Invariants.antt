use Rattle.std.proofs.Common.{◌≡◌, ◌-◌}
use Rattle.vga_bits.specs.Four.{four_by_plane}
use Rattle.vga_host.specs.Memory.Write.{written_byte}
use Rattle.vga_host.specs.Memory.Runs.{after_puts, even_or_odd_byte}
use Rattle.vga_host.specs.Memory.Access.{IsAccess}
use Rattle.vga_host.proofs.host.Host.put_in_turn.Given as goal

-- what the registers say stays, and what the writes from here on leave is what all leave
abbrev pub invariant-loop-i : goal.invariant-loop-i
invariant-loop-i l =
    IsAccess l.access l.self
    × (l.bytes ≡ four_by_plane (λ p. written_byte l.self l.even p))
    × (l.others ≡ four_by_plane (λ p. written_byte l.self l.odd p))
    × (after_puts l.misc l.first (even_or_odd_byte l.even l.odd) (l.n - l.i) l.i l.self ≡ after_puts l.misc l.first (even_or_odd_byte l.even l.odd) l.n 0 l.fn.self)
