use Rattle.std.proofs.Common.{arith}
use Rattle.std.proofs.lemmas.Grind.{common_steps}
use Rattle.vga_bits.proofs.SavedLemmas.{put_behind}
use Rattle.bios_modes.specs.Saved.{saved_bda}
use Rattle.bios_modes.proofs.bda.Bda.save.Goals as goal

pub returns-clause-put : goal.returns-clause-put
unfolding saved_bda
returns-clause-put c = record {
  end = grind (arith, common_steps);
  prefix = grind (arith, common_steps);
  back = (put_behind c.put_bytes-at.ensures.put (put_behind c.put_cursor_positions-at.ensures.put c.put_bytes.ensures.put)).back;
}
