use Rattle.std.proofs.Common.{rules}
use Rattle.vga_attr.specs.Saved.{attr_from}
use Rattle.vga_attr.proofs.attr.Attr.restore.Goals as goal

pub returns : goal.returns
unfolding attr_from
returns c = search rules
