use Rattle.std.proofs.Common.{◌≡◌, ◌≤◌, ◌-◌, ◌%◌}
use Rattle.vga_host.specs.Memory.Runs.{after_moves}
use Rattle.vga_host.proofs.WordLemmas.{over}
use Rattle.vga_host.proofs.host.Host.copy_words.Given as goal

-- a whole number of words is moved, no register is another, and the moves so far leave what is there
abbrev pub invariant-loop-done : goal.invariant-loop-done
invariant-loop-done l =
    (l.done ≤ l.n)
    × (l.done % l.per ≡ 0)
    × (over l.fn.self l.self.memory l.self.latches ≡ l.self)
    × (after_moves l.misc l.from l.to l.done 0 l.fn.self ≡ l.self)

abbrev pub decreases-loop-done : goal.decreases-loop-done
decreases-loop-done l = l.n - l.done
