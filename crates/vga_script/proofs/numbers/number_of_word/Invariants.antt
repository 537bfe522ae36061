use Rattle.std.proofs.Common.{◌≡◌, ◌≤◌, length}
use Rattle.vga_script.specs.StepReading.{number_from, number_of_word}
use Rattle.vga_script.proofs.numbers.number_of_word.Given as goal

-- the number so far and the digits that are left spell what the word spells
abbrev pub invariant-loop-rest : goal.invariant-loop-rest
invariant-loop-rest l = record { so_far : number_from l.radix l.most l.n l.rest ≡ number_of_word l.radix l.most l.word; bound : l.n ≤ l.most }

abbrev pub decreases-loop-rest : goal.decreases-loop-rest
decreases-loop-rest l = length l.rest
