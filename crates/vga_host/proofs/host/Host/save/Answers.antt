use Rattle.std.proofs.Common.{arith}
use Rattle.std.proofs.lemmas.Grind.{common_steps}
use Rattle.vga_bits.proofs.SavedLemmas.{put_behind}
use Rattle.vga_host.specs.Saved.{saved_host}
use Rattle.vga_host.proofs.host.Host.save.Goals as goal

pub returns-clause-put : goal.returns-clause-put
unfolding saved_host
returns-clause-put c = record {
  end = grind (arith, common_steps);
  prefix = grind (arith, common_steps);
  back = (put_behind c.put_bytes-at.ensures.put (put_behind c.put_bytes-at-2.ensures.put (put_behind c.put_bytes-at-3.ensures.put
      (put_behind c.put_bytes-at-4.ensures.put c.save.ensures.put)))).back;
}
