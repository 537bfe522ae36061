use Rattle.std.proofs.Common.{◌-◌, ◌≤◌, ◌<◌, ℕ}
use Rattle.vga_c.specs.Forms.{div_ceil, form_word}
use Rattle.vga_c.specs.Updates.{IsRowOfWords}
use Rattle.vga_c.proofs.updates.count_rows_from_top.Given as goal

-- the rows so far are there
abbrev pub invariant-loop-y : goal.invariant-loop-y
invariant-loop-y l = (l.y ≤ div_ceil l.height l.form.down)
    × ((k : ℕ) → k < l.y → IsRowOfWords (div_ceil l.width l.form.across) l.pitch (form_word l.form l.width l.bytes) l.pixels k)

abbrev pub decreases-loop-y : goal.decreases-loop-y
decreases-loop-y l = div_ceil l.height l.form.down - l.y
