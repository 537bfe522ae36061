use Rattle.std.proofs.Common.{◌≡◌, false, take}
use Rattle.std.specs.Io.KnownBytes.{Appends}
use Rattle.vga_bits.specs.Tracked.{inner_of, has_failed}
use Rattle.vga_run.proofs.ServedLemmas.{digits}
use Rattle.vga_run.proofs.served.write_digits.Given as goal

-- the digits of the bytes so far are written
abbrev pub invariant-loop-byte : goal.invariant-loop-byte
invariant-loop-byte g l = record {
  written : Appends (g.W.Write.contents (inner_of l.initial.out)) (g.W.Write.contents (inner_of l.out)) (digits (take l.byte-index l.bytes));
  sound : has_failed l.out ≡ false;
}
