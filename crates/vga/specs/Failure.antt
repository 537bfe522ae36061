-- Why the program did not do its job.
use Rattle.std.specs.Prelude.{Bool, true, false, if◌then◌else◌}
use Rattle.std.specs.declared.io.ErrorKind.{ErrorKind as IoErrorKind}
use Rattle.std.specs.declared.io.ErrorKind.TheVariants as io
use Rattle.clap.specs.Words.{kind_of}
use Rattle.clap.specs.declared.error.Error.{Error}
use Rattle.clap.specs.declared.error.kind.ErrorKind.{ErrorKind}
use Rattle.clap.specs.declared.error.kind.ErrorKind.TheVariants as kind
use Rattle.vga_bits.specs.declared.fault.Fault.TheVariants.{OutOfMemory}
use Rattle.vga.specs.declared.failure.Failure.{Failure}
use Rattle.vga.specs.declared.failure.Failure.TheVariants.{Words, Fault}
use Rattle.vga.specs.declared.words_error.WordsError.TheVariants.{Refused, Missing}

-- an allocation failed
abbrev pub out_of_memory : Failure
out_of_memory = Fault OutOfMemory

-- the error says that an allocation failed
abbrev pub is_out_of_memory : ErrorKind → Bool
is_out_of_memory kind.OutOfMemory = true
is_out_of_memory _ = false

-- an error of the command line: a failed allocation is a fault, any other error is a usage error
abbrev pub failure_of : Error → Failure
failure_of error = if is_out_of_memory (kind_of error) then out_of_memory else Words (Refused error)

-- words that could not be read: an allocation failed, or one of them is not text
abbrev pub unread_failure : IoErrorKind → Failure
unread_failure io.OutOfMemory = out_of_memory
unread_failure _ = Words Missing
