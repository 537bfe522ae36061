use Rattle.std.proofs.Common.{◌≡◌, ◌≤◌, ◌-◌, ◌%◌}
use Rattle.vga_host.specs.Memory.Runs.{after_puts, even_or_odd_byte, with_memory}
use Rattle.vga_host.proofs.host.Host.store_words.Given as goal

-- a whole number of words is put, memory alone is another, and the writes so far leave what is there
abbrev pub invariant-loop-done : goal.invariant-loop-done
invariant-loop-done l =
    (l.done ≤ l.n)
    × (l.done % l.per ≡ 0)
    × (with_memory l.fn.self l.self.memory ≡ l.self)
    × (after_puts l.misc l.first (even_or_odd_byte l.even l.odd) l.done 0 l.fn.self ≡ l.self)

abbrev pub decreases-loop-done : goal.decreases-loop-done
decreases-loop-done l = l.n - l.done
