-- What stands after the steps of a repeat in bytes.
use Rattle.std.specs.Prelude.{ℕ, ◌≡◌, List, [], ◌∷◌}
use Rattle.vga_script.specs.declared.items.AfterRepeatBody.{AfterRepeatBody}
use Rattle.vga_script.specs.declared.items.AfterRepeatBody.TheVariants.{PieceEnd, Nothing, Bad, Cut}
use Rattle.vga_script.specs.Decoding.{StartsWithNeitherStepNorRepeatEnd, StartsWithCutStep}
use Rattle.vga_script.specs.Spelling.{opcode_end}

-- these bytes stand after the steps of a repeat: its end and what follows that, nothing, what no
-- repeat contains, or a step that is cut off
abbrev pub StandsAfterRepeatBody : AfterRepeatBody → List ℕ → Type 0
StandsAfterRepeatBody (PieceEnd others) rest = rest ≡ opcode_end ∷ others.now
StandsAfterRepeatBody Nothing rest = rest ≡ []
StandsAfterRepeatBody Bad rest = StartsWithNeitherStepNorRepeatEnd rest
StandsAfterRepeatBody Cut rest = StartsWithCutStep rest
