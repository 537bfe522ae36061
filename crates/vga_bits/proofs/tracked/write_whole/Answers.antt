use Rattle.vga_bits.proofs.WritingLemmas.{writes_rest}
use Rattle.vga_bits.proofs.tracked.write_whole.Goals as goal

-- what the first call leaves is written by others
pub returns-in-Ok : goal.returns-in-Ok
returns-in-Ok g c = writes_rest _ _ _ _ _ _ _ c.in-Ok.n c.in-Ok.ensures.bytes c.split_at.ensures.back c.write_rest.ensures
