use Rattle.std.proofs.Common.{◌≡◌, ◌∙◌, ℕ, List, length, ap, arith}
use Rattle.vga_bits.proofs.SavedLemmas.{length-words_in}
use Rattle.vga_card.specs.Canvas.{stored_dots}
use Rattle.vga_card.specs.Saved.{saved_dots_from, widths_from_saved_bytes}
use Rattle.vga_card.proofs.SavedLemmas.{canvas_restored, drawn_restored, restored_fits}
use Rattle.vga_card.proofs.canvas.Canvas.restore.Goals as goal

-- there are 1,024 widths
pub widths_count : (bytes : List ℕ) → length (widths_from_saved_bytes bytes) ≡ 1024
unfolding widths_from_saved_bytes
widths_count bytes = length-words_in 1024 bytes

pub restore_bytes-requires : goal.restore_bytes-requires
restore_bytes-requires c =
    let bytes = c.args.bytes.now in
    let dots = c.requires.dots in
    let rest = ap length c.split_at.ensures.back in
    let fits = restored_fits _ (widths_from_saved_bytes bytes) c.args.beam (widths_count bytes) dots.few dots.counted in
    omega (arith, rest, fits, c.self.invariant.1.room)

pub invariant_of-self : goal.invariant_of-self
invariant_of-self c =
    let a = c.self.inside in
    let bytes = c.args.bytes.now in
    let dots = c.requires.dots in
    let count = widths_count bytes in
    let restored = canvas_restored _ c.split_at.result.1.now (widths_from_saved_bytes bytes) c.args.beam c.min-self-inside.result
    (omega (arith, c.self.invariant.1.room, c.restore_bytes.ensures.capacity)) count dots.few
    (ap length c.split_at.ensures.back ∙ dots.counted) (omega arith) in
    rw (c.restore.ensures, c.restore_bytes.ensures.prefix)
    (c.restore_bytes.ensures.len, restored)

pub returns-clause-dots : goal.returns-clause-dots
unfolding saved_dots_from
returns-clause-dots c =
    let a = c.self.inside in
    let bytes = c.args.bytes.now in
    rw (c.restore.ensures, c.restore_bytes.ensures.prefix)
    (ap (stored_dots (widths_from_saved_bytes bytes)) c.split_at.ensures.back)

pub returns-clause-drawn : goal.returns-clause-drawn
returns-clause-drawn c =
    let a = c.self.inside in
    let bytes = c.args.bytes.now in
    rw (c.restore.ensures)
    (drawn_restored (widths_from_saved_bytes bytes) c.args.beam c.min-self-inside.result c.requires.dots.few (omega arith))
