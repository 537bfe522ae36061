use Rattle.std.proofs.Common.{◌-◌, vec_len}
use Rattle.vga_bits.specs.Tracked.{inner_of, has_failed, read_count_of}
use Rattle.vga_bits.proofs.ReadingLemmas.{Taken}
use Rattle.vga_bits.proofs.limited_reading.read_prefix.Given as goal

-- the bytes so far are a prefix of what the reader had
abbrev pub invariant-loop-buffer : goal.invariant-loop-buffer
invariant-loop-buffer g l = Taken (g.R.Read.remaining (inner_of l.initial.reader)) (g.R.Read.remaining (inner_of l.reader)) (has_failed l.reader)
    (read_count_of l.initial.reader) (read_count_of l.reader) l.bytes.items (vec_len l.bytes) l.most

abbrev pub decreases-loop-buffer : goal.decreases-loop-buffer
decreases-loop-buffer g l = l.most - vec_len l.bytes
