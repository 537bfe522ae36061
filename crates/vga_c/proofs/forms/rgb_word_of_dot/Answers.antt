use Rattle.std.proofs.Common.{rules}
use Rattle.vga_c.proofs.forms.rgb_word_of_dot.Goals as goal

pub returns : goal.returns
returns c = search rules
