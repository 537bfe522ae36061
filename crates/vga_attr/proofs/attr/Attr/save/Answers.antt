use Rattle.std.proofs.Common.{arith, rules}
use Rattle.std.proofs.lemmas.Grind.{common_steps}
use Rattle.vga_bits.proofs.SavedLemmas.{put_behind}
use Rattle.vga_attr.specs.Saved.{saved_attr}
use Rattle.vga_attr.proofs.attr.Attr.save.Goals as goal

pub returns-clause-put : goal.returns-clause-put
unfolding saved_attr
returns-clause-put c = record {
  end = grind (arith, common_steps);
  prefix = grind (arith, common_steps);
  back = (put_behind c.put_bytes-at.ensures.put (c.put_bytes.ensures.put)).back;
}

pub returns-clause-end : goal.returns-clause-end
unfolding saved_attr
returns-clause-end c = search rules
