-- The program's command line: its commands, and their arguments.
use Rattle.std.specs.Prelude.{◌∷◌, [], Some, true, false, codes}
use Rattle.clap.specs.Words.{App, Rule, Shape, Text, new_rule}
use Rattle.clap.specs.Simple.{new_shape}

-- a file that is named by its position among the words
abbrev pub required_path_argument : Text → Rule
required_path_argument id = record (new_rule id) { required = true }

-- the font file, which follows `--fonts`
abbrev pub fonts_argument : Rule
fonts_argument = record (new_rule (codes "fonts")) {
  long = Some (codes "fonts");
  value_names = 1;
  required = true;
}

-- how many steps are run, which follows `--until`
abbrev pub until_argument : Rule
until_argument = record (new_rule (codes "until")) { long = Some (codes "until"); value_names = 1 }

-- `asm TEXT BIN`
abbrev pub asm_command : Shape
asm_command = record (new_shape (codes "asm")) {
  rules =
      required_path_argument (codes "TEXT") ∷ required_path_argument (codes "BIN") ∷ [];
}

-- `dis BIN`
abbrev pub dis_command : Shape
dis_command = record (new_shape (codes "dis")) { rules = required_path_argument (codes "BIN") ∷ [] }

-- `run BIN --fonts FILE`, which `--until N` may follow
abbrev pub run_command : Shape
run_command = record (new_shape (codes "run")) {
  rules =
      required_path_argument (codes "BIN") ∷ fonts_argument ∷ until_argument ∷ [];
}

-- `go TEXT --fonts FILE`, which `--until N` may follow
abbrev pub go_command : Shape
go_command = record (new_shape (codes "go")) {
  rules =
      required_path_argument (codes "TEXT") ∷ fonts_argument ∷ until_argument ∷ [];
}

-- `vga` itself, which needs a command after it
abbrev pub program_shape : Shape
program_shape = record (new_shape (codes "vga")) { is_leaf = false; subcommand_required = true }

-- `vga` and a command that converts a script from one form to the other
abbrev pub converting_commands : App
converting_commands = record { top = program_shape; subs = asm_command ∷ dis_command ∷ [] }

-- `vga` and a command
abbrev pub command_line : App
command_line = record {
  top = program_shape;
  subs = asm_command ∷ dis_command ∷ run_command ∷ go_command
      ∷ [];
}
