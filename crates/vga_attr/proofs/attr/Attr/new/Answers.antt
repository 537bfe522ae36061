use Rattle.std.proofs.Common.{rules}
use Rattle.vga_attr.proofs.attr.Attr.new.Goals as goal

pub returns : goal.returns
returns c = search rules
