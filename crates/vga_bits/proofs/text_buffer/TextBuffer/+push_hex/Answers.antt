use Rattle.std.proofs.Common.{arith, rules}
use Rattle.vga_bits.proofs.HexLemmas.{hex_none, hex_pushed}
use Rattle.vga_bits.proofs.text_buffer.TextBuffer.+push_hex.Goals as goal

pub returns-then-digits-gt0-clause-items : goal.returns-then-digits-gt0-clause-items
returns-then-digits-gt0-clause-items c = grind (arith, hex_none, hex_pushed)

pub returns-then-digits-gt0-clause-len : goal.returns-then-digits-gt0-clause-len
returns-then-digits-gt0-clause-len c = search rules

pub returns-else-digits-gt0-clause-items : goal.returns-else-digits-gt0-clause-items
returns-else-digits-gt0-clause-items c = grind (arith, hex_none, hex_pushed)

pub returns-else-digits-gt0-clause-len : goal.returns-else-digits-gt0-clause-len
returns-else-digits-gt0-clause-len c = search rules
