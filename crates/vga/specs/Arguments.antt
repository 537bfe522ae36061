-- The job that words on the program's command line ask for.
use Rattle.std.specs.Prelude.{ℕ, ◌≡◌, ◌≢◌, ◌==◌, ◌⊎◌, ◌^◌, ◌&&◌, ◌∷◌, [], List, Bool, true, false}
use Rattle.std.specs.Prelude.{not, nat_lt, Option, Some, None, IfSome, option_and_then, Result, Ok}
use Rattle.std.specs.Prelude.{Err, MatchResult, codes, if◌then◌else◌}
use Rattle.std.specs.Str.{bytes_eq}
use Rattle.std.specs.Str.Parse.{digits_value}
use Rattle.clap.specs.Words.{Row, Text, fault_of, first_of, kind_of, subcommand_of}
use Rattle.clap.specs.Kinds.{IsAmong}
use Rattle.clap.specs.ValueTests.{is_numeral}
use Rattle.clap.specs.declared.error.kind.ErrorKind.{ErrorKind}
use Rattle.clap.specs.declared.error.kind.ErrorKind.TheVariants as kind
use Rattle.vga_bits.specs.declared.fault.Fault.TheVariants.{OutOfMemory}
use Rattle.vga.specs.CommandLine.{command_line}
use Rattle.vga.specs.Job.{Request, request_of, asm, dis, run, go}
use Rattle.vga.specs.declared.job.Job.{Job}
use Rattle.vga.specs.declared.failure.Failure.{Failure}
use Rattle.vga.specs.declared.failure.Failure.TheVariants.{Words, Fault}
use Rattle.vga.specs.declared.words_error.WordsError.TheVariants.{Refused, Missing}

-- a request with one path, if there is one
abbrev pub request_of_one_path : (Text → Request) → Option Text → Option Request
request_of_one_path request (Some path) = Some (request path)
request_of_one_path request None = None

-- a request with two paths, if there are two
abbrev pub request_of_two_paths : (Text → Text → Request) → Option Text → Option Text → Option
    Request
request_of_two_paths request (Some first) (Some second) = Some (request first second)
request_of_two_paths request _ _ = None

-- what the matches of `asm` ask for
abbrev pub asm_asked : List Row → Option Request
asm_asked rows =
    request_of_two_paths asm (first_of (codes "TEXT") rows) (first_of (codes "BIN") rows)

-- what the matches of `dis` ask for
abbrev pub dis_asked : List Row → Option Request
dis_asked rows = request_of_one_path dis (first_of (codes "BIN") rows)

-- a word of decimal digits only, whose number fits into 32 bits
abbrev pub is_count : Text → Bool
is_count word = is_numeral word && nat_lt (digits_value 10 word) (2 ^ 32)

-- the number of steps that a word names
abbrev pub count_of : Text → Option ℕ
count_of word = if is_count word then Some (digits_value 10 word) else None

-- the limit on steps in the matches
abbrev pub until_asked : List Row → Option ℕ
until_asked rows = option_and_then count_of (first_of (codes "until") rows)

-- what the matches of `run` ask for
abbrev pub run_asked : List Row → Option Request
run_asked rows = request_of_two_paths (λ script fonts. run script fonts (until_asked rows))
    (first_of (codes "BIN") rows) (first_of (codes "fonts") rows)

-- what the matches of `go` ask for
abbrev pub go_asked : List Row → Option Request
go_asked rows = request_of_two_paths (λ text fonts. go text fonts (until_asked rows))
    (first_of (codes "TEXT") rows) (first_of (codes "fonts") rows)

-- what a command and its matches ask for, if no path is missing
abbrev pub asked_of : Option (Text × List Row) → Option Request
asked_of None = None
asked_of (Some command) =
    if bytes_eq command.0 (codes "asm") then asm_asked command.1
    else if bytes_eq command.0 (codes "dis") then dis_asked command.1
    else if bytes_eq command.0 (codes "run") then run_asked command.1
    else if bytes_eq command.0 (codes "go") then go_asked command.1
    else None

-- what words on the program's command line ask for
abbrev pub request_of_words : List Text → Option Request
request_of_words words = asked_of (subcommand_of command_line words)

-- there is a word for the limit, and it is not a number of steps
abbrev pub is_bad_count : Option Text → Bool
is_bad_count None = false
is_bad_count (Some word) = not (is_count word)

-- the matches of a command have a word for the limit that is not a number of steps
abbrev pub matches_have_bad_limit : Option (Text × List Row) → Bool
matches_have_bad_limit None = false
matches_have_bad_limit (Some command) = is_bad_count (first_of (codes "until") command.1)

-- words on the program's command line have a word for the limit that is not a number of steps
abbrev pub has_bad_limit_word : List Text → Bool
has_bad_limit_word words = matches_have_bad_limit (subcommand_of command_line words)

-- the refusal of a word for the limit; or an allocation failed
abbrev pub RefusesCount : Failure → Type 0
RefusesCount (Words (Refused error)) = kind_of error ≡ kind.ValueValidation
RefusesCount (Words Missing) = ⊥
RefusesCount (Fault fault) = fault ≡ OutOfMemory

-- Words are refused with an error of this kind: the command line finds this fault in them; or it
-- finds none, and their word for the limit is not a number of steps.
abbrev pub RefusesWords : List Text → ErrorKind → Type 0
RefusesWords words found = IsAmong found (fault_of command_line words)
    ⊎ ((fault_of command_line words ≡ []) × (has_bad_limit_word words ≡ true)
    × (found ≡ kind.ValueValidation))

-- the job that is asked for, or that a command or a path is missing
abbrev pub FindsJob : Option Request → Result Job Failure → Type 0
FindsJob request (Ok job) = request ≡ Some (request_of job)
FindsJob request (Err failure) = (request ≡ None) × (failure ≡ Words Missing)

-- What `job` answers for words: the job that they ask for; or that they are refused; or that they
-- are accepted but lack a command or a path; or that an allocation failed.
abbrev pub JobAnswers : List Text → Result Job Failure → Type 0
JobAnswers words (Ok job) = (fault_of command_line words ≡ []) × (has_bad_limit_word words ≡ false)
    × (request_of_words words ≡ Some (request_of job))
JobAnswers words (Err (Words (Refused error))) = (kind_of error ≢ kind.OutOfMemory)
    × RefusesWords words (kind_of error)
JobAnswers words (Err (Words Missing)) = (fault_of command_line words ≡ [])
    × (has_bad_limit_word words ≡ false) × (request_of_words words ≡ None)
JobAnswers words (Err (Fault fault)) = fault ≡ OutOfMemory

-- the word may be a flag
abbrev pub begins_with_hyphen : Text → Bool
begins_with_hyphen [] = false
begins_with_hyphen (byte ∷ rest) = byte == 45

-- the words of a limit, if there is one: `--until`, and this word
abbrev pub until_words : Option ℕ → Text → List Text
until_words None count = []
until_words (Some n) count = codes "--until" ∷ count ∷ []

-- the words of a request, after the program's name, with this word for its limit
abbrev pub request_words_with_limit_word : Request → Text → List Text
request_words_with_limit_word (asm text script) count = codes "asm" ∷ text ∷ script ∷ []
request_words_with_limit_word (dis script) count = codes "dis" ∷ script ∷ []
request_words_with_limit_word (run script fonts until) count = codes "run" ∷ script ∷ codes "--fonts" ∷ fonts
    ∷ until_words until count
request_words_with_limit_word (go text fonts until) count = codes "go" ∷ text ∷ codes "--fonts" ∷ fonts
    ∷ until_words until count

-- the limit of a request
abbrev pub until_in : Request → Option ℕ
until_in (asm text script) = None
until_in (dis script) = None
until_in (run script fonts until) = until
until_in (go text fonts until) = until

-- no path of a request begins with a hyphen
abbrev pub HasPlainPaths : Request → Type 0
HasPlainPaths (asm text script) = (begins_with_hyphen text ≡ false)
    × (begins_with_hyphen script ≡ false)
HasPlainPaths (dis script) = begins_with_hyphen script ≡ false
HasPlainPaths (run script fonts until) = (begins_with_hyphen script ≡ false)
    × (begins_with_hyphen fonts ≡ false)
HasPlainPaths (go text fonts until) = (begins_with_hyphen text ≡ false)
    × (begins_with_hyphen fonts ≡ false)

-- The words of a request, after the program's name, give the job with the same command, paths and
-- limit, unless an allocation fails.
abbrev pub WordsGiveJobOfRequest : List Text → Result Job Failure → Type 0
WordsGiveJobOfRequest words result =
    (program : Text) (request : Request) (count : Text) → words ≡ program ∷ request_words_with_limit_word request count →
    HasPlainPaths request
    → IfSome (until_in request) (λ n. count_of count ≡ Some n)
    → MatchResult result (λ job. request_of job ≡ request) (λ failure. failure ≡ Fault OutOfMemory)
