use Rattle.std.proofs.Common.{refl}
use Rattle.std.specs.Fmt.{digits}
use Rattle.vga_script.specs.Printing.{line_of_words, port_text}
use Rattle.vga_bits.specs.Hex.{hex}
use Rattle.vga_script.proofs.worked_examples.repeats.Goals as goal

pub returns-clause-text : goal.returns-clause-text
unfolding line_of_words digits hex port_text
returns-clause-text c = refl
