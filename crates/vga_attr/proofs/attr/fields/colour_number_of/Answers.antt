use Rattle.std.proofs.Common.{rules}
use Rattle.vga_attr.proofs.attr.fields.colour_number_of.Goals as goal

pub returns : goal.returns
returns c = search rules
