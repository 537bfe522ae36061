-- The lines of a script's text, one by one.
use Rattle.std.specs.Prelude.{ℕ, ◌⊎◌, List}
use Rattle.vga_script.specs.declared.step.Step.{Step}
use Rattle.vga_script.specs.declared.version.Version.{Version}
use Rattle.vga_script.specs.Text.{SpellsLine, SpellsBeginningOfRepeat, IsRepeatEndLine}
use Rattle.vga_script.specs.Tokens.{words}
use Rattle.vga_script.specs.Version.{AllowsRepeats}

-- a line that begins or ends a repeat, in a version that has repeats
abbrev pub IsLineOfRepeat : Version → List ℕ → Type 0
IsLineOfRepeat version line = AllowsRepeats version
    × (((count : ℕ) × SpellsBeginningOfRepeat (words line) count) ⊎ IsRepeatEndLine (words line))

-- a line of a script of this version: it has the words of a step, or none; or it begins or ends a
-- repeat
abbrev pub IsLine : Version → List ℕ → Type 0
IsLine version line = ((steps : List Step) × SpellsLine (words line) steps)
    ⊎ IsLineOfRepeat version line
