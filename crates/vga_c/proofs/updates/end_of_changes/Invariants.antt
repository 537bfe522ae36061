use Rattle.std.proofs.Common.{◌≤◌, ◌<◌, ℕ}
use Rattle.vga_c.specs.Forms.{div_ceil, form_word}
use Rattle.vga_c.specs.Updates.{IsRowOfWords}
use Rattle.vga_c.proofs.updates.end_of_changes.Given as goal

-- the rows from the end on are there
abbrev pub invariant-loop-end : goal.invariant-loop-end
invariant-loop-end l = (l.first ≤ l.end) × ((l.end ≤ div_ceil l.height l.form.down)
    × ((k : ℕ) → l.end ≤ k → k < div_ceil l.height l.form.down → IsRowOfWords (div_ceil l.width l.form.across) l.pitch (form_word l.form l.width l.bytes) l.pixels k))

abbrev pub decreases-loop-end : goal.decreases-loop-end
decreases-loop-end l = l.end
