use Rattle.std.proofs.Common.{◌≡◌, ◌≤◌, ◌-◌, ◌%◌, length, slice_index}
use Rattle.vga_host.specs.Memory.Runs.{after_puts, with_memory}
use Rattle.vga_host.proofs.host.Host.store_byte_groups.Given as goal

-- a whole number of words is put, memory alone is another, and the writes so far leave what is there
abbrev pub invariant-loop-done : goal.invariant-loop-done
invariant-loop-done l =
    (l.done ≤ length l.bytes)
    × (l.done % l.per ≡ 0)
    × (with_memory l.fn.self l.self.memory ≡ l.self)
    × (after_puts l.misc l.first (slice_index l.bytes) l.done 0 l.fn.self ≡ l.self)

abbrev pub decreases-loop-done : goal.decreases-loop-done
decreases-loop-done l = length l.bytes - l.done
