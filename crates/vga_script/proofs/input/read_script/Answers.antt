use Rattle.std.proofs.Common.{◌≤◌, length, inl, inr, refl, arith}
use Rattle.vga_bits.proofs.ReadingLemmas.{prefix_is_all, prefix_is_long}
use Rattle.vga_script.proofs.input.read_script.Goals as goal

-- one byte more than a script may have was read
pub returns-then-len-gt-SCRIPT_LIMIT-clause-fault : goal.returns-then-len-gt-SCRIPT_LIMIT-clause-fault
returns-then-len-gt-SCRIPT_LIMIT-clause-fault g c =
    inr (inl (
      refl,
      prefix_is_long 16777217 16777216 _ c.in_ok-bytes.bytes.items c.in_ok-bytes.ensures.prefix.1
          (omega (arith, c.len.ensures, c.if-len-gt-SCRIPT_LIMIT)),
    ))

-- the reader ended before
pub returns-clause-input : goal.returns-clause-input
returns-clause-input g c =
    let short : length c.in_ok-bytes.bytes.items ≤ 16777216 = omega (arith, c.len.ensures, c.if-len-gt-SCRIPT_LIMIT) in
    (prefix_is_all 16777217 _ c.in_ok-bytes.bytes.items c.in_ok-bytes.ensures.prefix.1 (omega (arith, short)), short)
