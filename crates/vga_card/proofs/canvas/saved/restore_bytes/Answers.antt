use Rattle.std.proofs.Common.{◌≡◌, ◌∙◌, ℕ, length, take, ap, arith}
use Rattle.vga_card.proofs.CanvasLemmas.{written_back}
use Rattle.vga_card.proofs.canvas.saved.restore_bytes.Goals as goal

pub returns-clause-prefix : goal.returns-clause-prefix
returns-clause-prefix c =
    let mid = c.lengthen_buffer.new.buffer in
    let new = c.put_bytes.new.out in
    let whole : length new ≡ mid.len = omega (arith, ap length c.as_mut_slice.ensures.value) in
    let end : length c.args.bytes.now ≡ c.put_bytes.result = omega arith in
    rw (written_back mid.len new mid.items whole) (ap (λ (n : ℕ). take n new) end ∙ c.put_bytes.ensures.put.prefix)
