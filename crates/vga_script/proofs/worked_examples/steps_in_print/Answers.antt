use Rattle.std.proofs.Common.{refl}
use Rattle.std.specs.Fmt.{digits}
use Rattle.vga_script.specs.Printing.{line_of_words}
use Rattle.vga_bits.specs.Hex.{hex}
use Rattle.vga_script.proofs.worked_examples.steps_in_print.Goals as goal

pub returns-clause-advance : goal.returns-clause-advance
unfolding line_of_words digits
returns-clause-advance c = refl

pub returns-clause-plane : goal.returns-clause-plane
unfolding line_of_words digits hex
returns-clause-plane c = refl
