-- From the matches of the command line to the job that they ask for.
use Rattle.std.proofs.Common.{◌≡◌, ◌≢◌, ◌∙◌, List, [], Option, Some, None, Result, Ok, Err, Bool, true, false, IsErrAnd, if◌then◌else◌, refl, sym, inl, inr, ap}
use Rattle.std.proofs.Common.{subst, option_map, codes}
use Rattle.std.proofs.lemmas.Result.{err_from_is_err_and}
use Rattle.clap.specs.Words.{App, HasKind, HasMatchesOf, Row, Text, fault_of, first_of, first_value, is_simple, is_simple_and_free, kind_of, rows_of}
use Rattle.clap.specs.Words.{subcommand_of, subcommand_name_of, subcommand_rows_of}
use Rattle.clap.specs.declared.error.Error.{Error}
use Rattle.clap.specs.declared.error.kind.ErrorKind.TheVariants as kind
use Rattle.clap.specs.declared.parser.matches.ArgMatches.{ArgMatches}
use Rattle.clap.specs.declared.parser.matches.Found.{Found}
use Rattle.clap.proofs.OnLiterals.{clap_on_literals}
use Rattle.clap.proofs.WalkLemmas.{first_value-rows}
use Rattle.vga.specs.Failure.{failure_of, is_out_of_memory, out_of_memory}
use Rattle.vga.specs.CommandLine.{command_line}
use Rattle.vga.specs.Arguments.{FindsJob, JobAnswers, RefusesCount, request_of_words, asked_of, has_bad_limit_word, matches_have_bad_limit, is_bad_count}
use Rattle.vga.specs.declared.failure.Failure.{Failure}
use Rattle.vga.specs.declared.failure.Failure.TheVariants.{Words, Fault}
use Rattle.vga.specs.declared.words_error.WordsError.TheVariants.{Refused, Missing}
use Rattle.vga.specs.declared.job.Job.{Job}

-- the first value of an argument, as `get_str` gives it
pub first_value_rows : (f : Found) (id : Text) → first_value f id ≡ first_of id (rows_of f)
first_value_rows = first_value-rows

-- a value whose two parts are these is the pair of them
pair_of : {X A B : Type 0} (o : Option X) (f : X → A) (g : X → B) (a : A) (b : B) → Some a ≡ option_map f o
    → Some b ≡ option_map (λ (p : A × B). p.1) (option_map {U = A × B} (λ x. (f x, g x)) o) → option_map {U = A × B} (λ x. (f x, g x)) o ≡ Some (a, b)
pair_of None f g a b first second = cc
pair_of (Some x) f g a b first second = cc

-- where the command has this name, what is asked for is what its own matches ask for
pub command_is_asked : (m : ArgMatches) (name wanted : Text) (rows : List Row) → Some name ≡ subcommand_name_of m →
    Some rows ≡ option_map (λ p. p.1) (subcommand_rows_of m)
    → name ≡ wanted → asked_of (subcommand_rows_of m) ≡ asked_of (Some (wanted, rows))
command_is_asked m name wanted rows named has is = ap asked_of (pair_of _ _ _ name rows named has ∙ ap (λ (n : Text). Some (n, rows)) is)

-- and its word for the number of steps is judged by them
pub rows_are_judged : (o : Option (Text × List Row)) (rows : List Row) → Some rows ≡ option_map (λ p. p.1) o →
    is_bad_count (first_of (codes "until") rows) ≡ matches_have_bad_limit o
rows_are_judged None rows has = cc
rows_are_judged (Some command) rows has = let same : rows ≡ command.1 = cc in ap (λ (r : List Row). is_bad_count (first_of (codes "until") r)) same

-- the command line is one of which the parser says when it fails
is_known : is_simple_and_free command_line ≡ true
unfolding clap_on_literals
is_known = refl

-- and what it finds
is_plain : is_simple command_line ≡ true
unfolding clap_on_literals
is_plain = refl

-- what `job` answers where the parser fails
pub refusal_answers : (app : App) (words : List Text) (error : Error) (result : Result Job Failure) → app ≡ command_line
    → (is_simple_and_free app ≡ true → HasKind (fault_of app words) error) → IsErrAnd result (λ f. f ≡ failure_of error) → JobAnswers words result
refusal_answers app words error result ours kinds is =
    let has : HasKind (fault_of command_line words) error = subst (λ (a : App). is_simple_and_free a ≡ true →
    HasKind (fault_of a words) error) ours kinds is_known in
    let exit = err_from_is_err_and result is in
    rw (exit.1, exit.2) (go (is_out_of_memory (kind_of error)) refl has)
  where
    go : (memory : Bool) → is_out_of_memory (kind_of error) ≡ memory → HasKind (fault_of command_line words) error
        → JobAnswers words (Err (if memory then out_of_memory else Words (Refused error)))
    go true is has = refl
    go false is has =
        let other : kind_of error ≢ kind.OutOfMemory = λ same. let bad : is_out_of_memory (kind_of error) ≡ true = ap is_out_of_memory same in cc in
        (other, elim has [ inl same ↦ absurd (other same) | inr among ↦ inl among ])

-- where the parser gives matches, it finds nothing amiss with the words
nothing_amiss : (app : App) (words : List Text) → app ≡ command_line → (is_simple_and_free app ≡ true → fault_of app words ≡ []) →
    fault_of command_line words ≡ []
nothing_amiss app words ours kinds = subst (λ (a : App). is_simple_and_free a ≡ true → fault_of a words ≡ []) ours kinds is_known

-- and the matches are those of the words
are_met : (app : App) (words : List Text) (m : ArgMatches) → app ≡ command_line → HasMatchesOf app words m →
    subcommand_rows_of m ≡ subcommand_of command_line words
are_met app words m ours matches = (subst (λ (a : App). HasMatchesOf a words m) ours matches is_plain).1

-- what `job` answers where the number of steps is none
pub bad_count_answers : (app : App) (words : List Text) (m : ArgMatches) (failure : Failure) → app ≡ command_line
    → (is_simple_and_free app ≡ true → fault_of app words ≡ []) → HasMatchesOf app words m → matches_have_bad_limit (subcommand_rows_of m) ≡ true → RefusesCount failure
    → JobAnswers words (Err failure)
bad_count_answers app words m failure ours kinds matches bad refuses =
    go failure (nothing_amiss app words ours kinds) (ap matches_have_bad_limit (sym (are_met app words m ours matches)) ∙ bad) refuses
  where
    go : (f : Failure) → fault_of command_line words ≡ [] → has_bad_limit_word words ≡ true → RefusesCount f → JobAnswers words (Err f)
    go (Words (Refused error)) passes bad refuses = (
      (λ same. let no : kind.OutOfMemory ≡ kind.ValueValidation = sym same ∙ refuses in cc),
      inr (passes, bad, refuses),
    )
    go (Words Missing) passes bad refuses = absurd refuses
    go (Fault fault) passes bad refuses = refuses

-- what `job` answers where it is one, or where there is no word for it
pub matches_answer : (app : App) (words : List Text) (m : ArgMatches) (result : Result Job Failure) → app ≡ command_line
    → (is_simple_and_free app ≡ true → fault_of app words ≡ []) → HasMatchesOf app words m → matches_have_bad_limit (subcommand_rows_of m) ≡ false
    → FindsJob (asked_of (subcommand_rows_of m)) result → JobAnswers words result
matches_answer app words m result ours kinds matches counts found =
    let met = are_met app words m ours matches in
    go result (nothing_amiss app words ours kinds) (ap matches_have_bad_limit (sym met) ∙ counts)
    (subst (λ (o : Option (Text × List Row)). FindsJob (asked_of o) result) met found)
  where
    go : (r : Result Job Failure) → fault_of command_line words ≡ [] → has_bad_limit_word words ≡ false → FindsJob (request_of_words words) r → JobAnswers words r
    go (Ok job) passes counts found = (passes, counts, found)
    go (Err (Words (Refused error))) passes counts found = let bad : Words (Refused error) ≡ Words Missing = found.1 in cc
    go (Err (Words Missing)) passes counts found = (passes, counts, found.0)
    go (Err (Fault fault)) passes counts found = let bad : Fault fault ≡ Words Missing = found.1 in cc
