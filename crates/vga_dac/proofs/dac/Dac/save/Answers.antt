use Rattle.std.proofs.Common.{arith, rules}
use Rattle.std.proofs.lemmas.Grind.{common_steps}
use Rattle.vga_bits.proofs.SavedLemmas.{put_behind}
use Rattle.vga_dac.specs.Saved.{saved_dac}
use Rattle.vga_dac.proofs.dac.Dac.save.Goals as goal

pub returns-clause-put : goal.returns-clause-put
unfolding saved_dac
returns-clause-put c = record {
  end = grind (arith, common_steps);
  prefix = grind (arith, common_steps);
  back = (put_behind c.put_bytes-at.ensures.put (put_behind c.put_bytes-at-2.ensures.put
      (put_behind c.put_bytes-at-3.ensures.put (c.put_bytes.ensures.put)))).back;
}

pub returns-clause-end : goal.returns-clause-end
unfolding saved_dac
returns-clause-end c = search rules
