-- The lines that the program itself writes to standard error.
use Rattle.std.specs.Prelude.{List, ℕ, ◌++◌, ◌∷◌, [], codes}

-- `vga: `, a text and a newline
abbrev pub line_with_program_name : List ℕ → List ℕ
line_with_program_name text = codes "vga: " ++ (text ++ 10 ∷ [])
