use Rattle.std.proofs.Common.{arith, rules}
use Rattle.std.proofs.lemmas.Grind.{common_steps}
use Rattle.std.proofs.lemmas.Slice.{drop-put_mid}
use Rattle.vga_bits.proofs.saved.put_bytes.Goals as goal

pub returns-clause-put : goal.returns-clause-put
returns-clause-put c = grind (arith, common_steps, drop-put_mid)

pub returns-clause-end : goal.returns-clause-end
returns-clause-end c = search rules
