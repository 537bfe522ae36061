use Rattle.std.proofs.Common.{◌≡◌, [], ◌∷◌, ◌++◌, length, refl, ap, ◌∙◌, arith, append-nil}
use Rattle.vga_script.specs.Item.{repeated}
use Rattle.vga_script.proofs.ItemLemmas.{repeated_none}
use Rattle.vga_script.proofs.ExampleLemmas.{frames_spell}
use Rattle.vga_script.proofs.worked_examples.repeats_spelled.Goals as goal

pub returns-clause-none : goal.returns-clause-none
returns-clause-none c = ([], refl, refl, omega arith)

-- no steps again and again are none
nothing : repeated 0xFFFF [] ++ [] ≡ []
nothing = append-nil (repeated 0xFFFF []) ∙ repeated_none 0xFFFF

pub returns-clause-empty : goal.returns-clause-empty
returns-clause-empty c = (0x0D ∷ 0xFF ∷ 0xFF ∷ 0x0E ∷ [], refl, ([], ((tt, omega arith, omega arith, tt), refl), refl), omega (arith, ap length nothing))

pub returns-clause-no_steps : goal.returns-clause-no_steps
returns-clause-no_steps c = nothing

pub returns-clause-frames : goal.returns-clause-frames
returns-clause-frames c = frames_spell 256 (omega arith)
