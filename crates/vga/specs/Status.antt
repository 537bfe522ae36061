-- The program's exit status.
use Rattle.std.specs.Prelude.{ℕ, Result, Ok, Err}
use Rattle.clap.specs.Words.{kind_of}
use Rattle.clap.specs.declared.error.kind.ErrorKind.{ErrorKind}
use Rattle.clap.specs.declared.error.kind.ErrorKind.TheVariants as kind
use Rattle.vga.specs.declared.failure.Failure.{Failure}
use Rattle.vga.specs.declared.failure.Failure.TheVariants.{Words, Fault}
use Rattle.vga.specs.declared.words_error.WordsError.TheVariants.{Refused, Missing}

-- help was asked for, which is no error; any other refusal is a usage error
abbrev pub refusal_status : ErrorKind → ℕ
refusal_status kind.DisplayHelp = 0
refusal_status _ = 2

-- 0 is success, 1 a fault, and 2 a usage error
abbrev pub status_of : Result Unit Failure → ℕ
status_of (Ok done) = 0
status_of (Err (Fault fault)) = 1
status_of (Err (Words Missing)) = 2
status_of (Err (Words (Refused error))) = refusal_status (kind_of error)
