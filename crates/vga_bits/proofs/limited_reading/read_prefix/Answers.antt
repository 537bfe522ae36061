use Rattle.std.proofs.Common.{arith}
use Rattle.std.proofs.lemmas.List.{length-take}
use Rattle.vga_bits.proofs.ReadingLemmas.{piece_taken}
use Rattle.vga_bits.proofs.limited_reading.read_prefix.Goals as goal

-- there is no memory for the piece that was read
pub returns-then-is_err-clause-prefix : goal.returns-then-is_err-clause-prefix
returns-then-is_err-clause-prefix g c =
    let read = c.in-Ok.ensures in
    let so_far = c.loop-buffer.invariant in (
      rw so_far.sound at read.failed,
      piece_taken _ _ _ _ _ _ _ _ _ _ so_far read.bytes.0
          (omega (arith, read.bound.0, read.bound.1, c.read.auto.buf, length-take c.min-room.result c.loop-buffer.buffer)),
    )
