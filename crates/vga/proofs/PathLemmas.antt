-- The words of a command, where no path begins with a hyphen, ask for a job of these paths and this number of steps.
use Rattle.std.proofs.Common.{◌≡◌, ◌∙◌, ℕ, List, [], ◌∷◌, Option, Some, None, IfSome, Result, Ok, Err, MatchResult, true, false, inl, inr, refl, sym, ap, fold}
use Rattle.std.proofs.Common.{subst, codes}
use Rattle.std.specs.Str.{bytes_eq}
use Rattle.clap.specs.Lexer.{long_of, short_of}
use Rattle.clap.specs.Simple.{built_leaf, inherited, marked_built, on_top, with_leaf_noted}
use Rattle.clap.specs.Words.{Row, Rule, Shape, Text, fault_of, first_of, kind_of}
use Rattle.clap.specs.Walk.{after_step, Held, Walk, Waiting, idle, option, positional, plain_word, settled, word_met, finished, walk, walked, nothing_held}
use Rattle.clap.specs.Walk.{walk_from}
use Rattle.clap.specs.Faults.{check_fault, defaults_fault, settle_fault, step_fault, turn_fault, walk_fault, word_fault}
use Rattle.clap.specs.Kinds.{IsAmong, Kinds, or_else}
use Rattle.clap.specs.declared.builder.value_parser.Reading.TheVariants.{AsWritten}
use Rattle.clap.specs.declared.parser.matches.ValueSource.TheVariants.{CommandLine}
use Rattle.clap.proofs.OnLiterals.{clap_on_literals}
use Rattle.vga.specs.CommandLine.{asm_command, command_line, dis_command, go_command, run_command}
use Rattle.vga.specs.Job.{Request, request_of, asm, dis, run, go}
use Rattle.vga.specs.Arguments.{HasPlainPaths, JobAnswers, WordsGiveJobOfRequest, request_of_words, asm_asked, has_bad_limit_word, begins_with_hyphen, count_of, dis_asked, go_asked, is_bad_count}
use Rattle.vga.specs.Arguments.{run_asked, until_in, until_words, request_words_with_limit_word}
use Rattle.vga.proofs.CountLemmas.{count_is_plain, good_count}
use Rattle.vga_bits.specs.declared.fault.Fault.TheVariants.{OutOfMemory}
use Rattle.vga.specs.declared.failure.Failure.{Failure}
use Rattle.vga.specs.declared.failure.Failure.TheVariants.{Words, Fault}
use Rattle.vga.specs.declared.words_error.WordsError.TheVariants.{Refused, Missing}
use Rattle.vga.specs.declared.job.Job.{Job}

-- ---- a word that does not begin with a hyphen

-- it is not `--`
no_end : (word : Text) → begins_with_hyphen word ≡ false → bytes_eq word (45 ∷ 45 ∷ []) ≡ false
no_end [] plain = refl
no_end (byte ∷ rest) plain = rw plain refl

-- it is no long flag
no_long : (word : Text) → begins_with_hyphen word ≡ false → long_of word ≡ None
no_long [] plain = refl
no_long (byte ∷ rest) plain = rw plain refl

-- it is no short flag
no_short : (word : Text) → begins_with_hyphen word ≡ false → short_of word ≡ None
no_short [] plain = refl
no_short (byte ∷ rest) plain = rw plain refl

-- so it is a value, where the command has no subcommands
path_met : (rules : List Rule) (waiting : Waiting) (position : ℕ) (word : Text) (held : Held) → begins_with_hyphen word ≡ false
    → word_met rules [] false waiting position word held ≡ plain_word rules waiting word held
path_met rules idle position word held plain = rw (no_end word plain, no_long word plain, no_short word plain) refl
path_met rules (option id) position word held plain = rw (no_end word plain, no_long word plain, no_short word plain) refl
path_met rules positional position word held plain = rw (no_end word plain, no_long word plain, no_short word plain) refl

-- and nothing is amiss with it
path_passes : (shape : Shape) (waiting : Waiting) (word : Text) (held : Held) → begins_with_hyphen word ≡ false
    → word_fault shape [] false waiting word held ≡ []
path_passes shape idle word held plain = rw (no_end word plain, no_long word plain, no_short word plain) refl
path_passes shape (option id) word held plain = rw (no_end word plain, no_long word plain, no_short word plain) refl
path_passes shape positional word held plain = rw (no_end word plain, no_long word plain, no_short word plain) refl

-- ---- the commands

data Command : Type 0 where
  assembles : Command
  prints : Command
  runs : Command
  goes : Command

abbrev shape_for : Command → Shape
shape_for assembles = asm_command
shape_for prints = dis_command
shape_for runs = run_command
shape_for goes = go_command

-- a command, as the parser builds it
abbrev built : Command → Shape
built command = built_leaf (inherited (on_top with_leaf_noted (on_top marked_built command_line)).top (shape_for command))

abbrev rules : Command → List Rule
rules command = (built command).rules

-- which argument the first path is
abbrev first_id : Command → Text
first_id assembles = codes "TEXT"
first_id prints = codes "BIN"
first_id runs = codes "BIN"
first_id goes = codes "TEXT"

-- ---- the first path

-- before the first word
abbrev begun : Walk
begun = walk_from nothing_held

abbrev after_first : Text → Text → Walk
after_first id path = record begun {
  held = record nothing_held { pending = Some (id, path ∷ []) };
  position = 2;
}

-- the row of a path
abbrev path_row : Text → Text → Row
path_row id path = record {
  id = id;
  values = path ∷ [];
  count = None;
  source = Some CommandLine;
  reading = AsWritten;
}

first_walked : (command : Command) (path : Text) → begins_with_hyphen path ≡ false → walked (rules command) [] begun path ≡ after_first (first_id command) path
unfolding clap_on_literals
first_walked assembles path plain = ap (λ met. after_step (rules assembles) path begun met.0 met.1) (path_met (rules assembles) idle 1 path nothing_held plain)
first_walked prints path plain = ap (λ met. after_step (rules prints) path begun met.0 met.1) (path_met (rules prints) idle 1 path nothing_held plain)
first_walked runs path plain = ap (λ met. after_step (rules runs) path begun met.0 met.1) (path_met (rules runs) idle 1 path nothing_held plain)
first_walked goes path plain = ap (λ met. after_step (rules goes) path begun met.0 met.1) (path_met (rules goes) idle 1 path nothing_held plain)

-- a path at a place where the walk waits for nothing passes, where the command takes one there
step_passes : (shape : Shape) (position : ℕ) (path : Text) (held : Held) → begins_with_hyphen path ≡ false
    → step_fault shape position (plain_word shape.rules idle path held).0 (plain_word shape.rules idle path held).1 ≡ []
    → or_else (word_fault shape [] false idle path held) (step_fault shape position (word_met shape.rules [] false idle position path held).0
    (word_met shape.rules [] false idle position path held).1) ≡ []
step_passes shape position path held plain passes =
    let met = word_met shape.rules [] false idle position path held in
    ap (λ k. or_else k (step_fault shape position met.0 met.1)) (path_passes shape idle path held plain)
    ∙ ap (λ m. step_fault shape position m.0 m.1) (path_met shape.rules idle position path held plain)
    ∙ passes

first_passes : (command : Command) (path : Text) → begins_with_hyphen path ≡ false → turn_fault (built command) [] begun path ≡ []
unfolding clap_on_literals
first_passes assembles path plain = step_passes (built assembles) 1 path nothing_held plain refl
first_passes prints path plain = step_passes (built prints) 1 path nothing_held plain refl
first_passes runs path plain = step_passes (built runs) 1 path nothing_held plain refl
first_passes goes path plain = step_passes (built goes) 1 path nothing_held plain refl

-- ---- the second path of `asm`

abbrev after_second : Text → Text → Walk
after_second text script = record begun {
  held = record nothing_held { rows = path_row (codes "TEXT") text ∷ []; pending = Some (codes "BIN", script ∷ []) };
  position = 3;
}

second_walked : (text script : Text) → begins_with_hyphen script ≡ false → walked (rules assembles) [] (after_first (codes "TEXT") text) script
    ≡ after_second text script
unfolding clap_on_literals
second_walked text script plain =
    let before = after_first (codes "TEXT") text in
    ap (λ met. after_step (rules assembles) script before met.0 met.1) (path_met (rules assembles) idle 2 script before.held plain)

second_passes : (text script : Text) → begins_with_hyphen script ≡ false → turn_fault (built assembles) [] (after_first (codes "TEXT") text) script ≡ []
unfolding clap_on_literals
second_passes text script plain = step_passes (built assembles) 2 script (after_first (codes "TEXT") text).held plain refl

-- ---- the font file of `run` and `go`

-- the commands that have one
data Runner : Type 0 where
  of_script : Runner
  of_text : Runner

abbrev command_of : Runner → Command
command_of of_script = runs
command_of of_text = goes

abbrev id_of : Runner → Text
id_of runner = first_id (command_of runner)

abbrev after_flag : Text → Text → Walk
after_flag id path = record begun {
  held = record nothing_held { rows = path_row id path ∷ []; pending = Some (codes "fonts", []) };
  waiting = option (codes "fonts");
  position = 2;
}

abbrev after_fonts : Text → Text → Text → Walk
after_fonts id path fonts = record begun {
  held = record nothing_held { rows = path_row id path ∷ []; pending = Some (codes "fonts", fonts ∷ []) };
  position = 2;
}

flag_walked : (runner : Runner) (path : Text) → walked (rules (command_of runner)) [] (after_first (id_of runner) path) (codes "--fonts")
    ≡ after_flag (id_of runner) path
unfolding clap_on_literals
flag_walked of_script path = refl
flag_walked of_text path = refl

fonts_walked : (runner : Runner) (path fonts : Text) → begins_with_hyphen fonts ≡ false
    → walked (rules (command_of runner)) [] (after_flag (id_of runner) path) fonts ≡ after_fonts (id_of runner) path fonts
unfolding clap_on_literals
fonts_walked of_script path fonts plain =
    let before = after_flag (codes "BIN") path in
    ap (λ met. after_step (rules runs) fonts before met.0 met.1) (path_met (rules runs) (option (codes "fonts")) 2 fonts before.held plain)
fonts_walked of_text path fonts plain =
    let before = after_flag (codes "TEXT") path in
    ap (λ met. after_step (rules goes) fonts before met.0 met.1) (path_met (rules goes) (option (codes "fonts")) 2 fonts before.held plain)

flag_passes : (runner : Runner) (path : Text) → turn_fault (built (command_of runner)) [] (after_first (id_of runner) path) (codes "--fonts") ≡ []
unfolding clap_on_literals
flag_passes of_script path = refl
flag_passes of_text path = refl

fonts_pass : (runner : Runner) (path fonts : Text) → begins_with_hyphen fonts ≡ false →
    turn_fault (built (command_of runner)) [] (after_flag (id_of runner) path) fonts ≡ []
unfolding clap_on_literals
fonts_pass of_script path fonts plain =
    let waiting = option (codes "fonts") in
    let held = (after_flag (codes "BIN") path).held in
    let met = word_met (rules runs) [] false waiting 2 fonts held in
    ap (λ k. or_else k (step_fault (built runs) 2 met.0 met.1)) (path_passes (built runs) waiting fonts held plain)
    ∙ ap (λ m. step_fault (built runs) 2 m.0 m.1) (path_met (rules runs) waiting 2 fonts held plain)
fonts_pass of_text path fonts plain =
    let waiting = option (codes "fonts") in
    let held = (after_flag (codes "TEXT") path).held in
    let met = word_met (rules goes) [] false waiting 2 fonts held in
    ap (λ k. or_else k (step_fault (built goes) 2 met.0 met.1)) (path_passes (built goes) waiting fonts held plain)
    ∙ ap (λ m. step_fault (built goes) 2 m.0 m.1) (path_met (rules goes) waiting 2 fonts held plain)

-- ---- the number of steps of `run` and `go`

-- the rows of a path and of a font file
abbrev both_rows : Text → Text → Text → List Row
both_rows id path fonts = path_row id path ∷ path_row (codes "fonts") fonts ∷ []

abbrev after_until : Text → Text → Text → Walk
after_until id path fonts = record begun {
  held = record nothing_held { rows = both_rows id path fonts; pending = Some (codes "until", []) };
  waiting = option (codes "until");
  position = 2;
}

abbrev after_count : Text → Text → Text → Text → Walk
after_count id path fonts count = record begun {
  held = record nothing_held { rows = both_rows id path fonts; pending = Some (codes "until", count ∷ []) };
  position = 2;
}

until_walked : (runner : Runner) (path fonts : Text)
    → walked (rules (command_of runner)) [] (after_fonts (id_of runner) path fonts) (codes "--until") ≡ after_until (id_of runner) path fonts
unfolding clap_on_literals
until_walked of_script path fonts = refl
until_walked of_text path fonts = refl

count_walked : (runner : Runner) (path fonts count : Text) → begins_with_hyphen count ≡ false
    → walked (rules (command_of runner)) [] (after_until (id_of runner) path fonts) count ≡ after_count (id_of runner) path fonts count
unfolding clap_on_literals
count_walked of_script path fonts count plain =
    let before = after_until (codes "BIN") path fonts in
    ap (λ met. after_step (rules runs) count before met.0 met.1) (path_met (rules runs) (option (codes "until")) 2 count before.held plain)
count_walked of_text path fonts count plain =
    let before = after_until (codes "TEXT") path fonts in
    ap (λ met. after_step (rules goes) count before met.0 met.1) (path_met (rules goes) (option (codes "until")) 2 count before.held plain)

until_passes : (runner : Runner) (path fonts : Text) → turn_fault (built (command_of runner)) [] (after_fonts (id_of runner) path fonts) (codes "--until") ≡ []
unfolding clap_on_literals
until_passes of_script path fonts = refl
until_passes of_text path fonts = refl

count_passes : (runner : Runner) (path fonts count : Text) → begins_with_hyphen count ≡ false
    → turn_fault (built (command_of runner)) [] (after_until (id_of runner) path fonts) count ≡ []
unfolding clap_on_literals
count_passes of_script path fonts count plain =
    let waiting = option (codes "until") in
    let held = (after_until (codes "BIN") path fonts).held in
    let met = word_met (rules runs) [] false waiting 2 count held in
    ap (λ k. or_else k (step_fault (built runs) 2 met.0 met.1)) (path_passes (built runs) waiting count held plain)
    ∙ ap (λ m. step_fault (built runs) 2 m.0 m.1) (path_met (rules runs) waiting 2 count held plain)
count_passes of_text path fonts count plain =
    let waiting = option (codes "until") in
    let held = (after_until (codes "TEXT") path fonts).held in
    let met = word_met (rules goes) [] false waiting 2 count held in
    ap (λ k. or_else k (step_fault (built goes) 2 met.0 met.1)) (path_passes (built goes) waiting count held plain)
    ∙ ap (λ m. step_fault (built goes) 2 m.0 m.1) (path_met (rules goes) waiting 2 count held plain)

-- ---- the whole words of a request

-- no path begins with a hyphen, and this word is the number of steps
abbrev IsSound : Request → Text → Type 0
IsSound request count = HasPlainPaths request × IfSome (until_in request) (λ n. count_of count ≡ Some n)

-- the words after the command
abbrev words_after : Request → Text → List Text
words_after (asm text script) count = text ∷ script ∷ []
words_after (dis script) count = script ∷ []
words_after (run script fonts until) count = script ∷ codes "--fonts" ∷ fonts ∷ until_words until count
words_after (go text fonts until) count = text ∷ codes "--fonts" ∷ fonts ∷ until_words until count

abbrev command_for : Request → Command
command_for (asm text script) = assembles
command_for (dis script) = prints
command_for (run script fonts until) = runs
command_for (go text fonts until) = goes

-- where the walk over the words of a runner ends
abbrev runner_ended : Text → Text → Text → Option ℕ → Text → Walk
runner_ended id path fonts None count = after_fonts id path fonts
runner_ended id path fonts (Some n) count = after_count id path fonts count

-- where the walk over the words ends
abbrev ended : Request → Text → Walk
ended (asm text script) count = after_second text script
ended (dis script) count = after_first (codes "BIN") script
ended (run script fonts until) count = runner_ended (codes "BIN") script fonts until count
ended (go text fonts until) count = runner_ended (codes "TEXT") text fonts until count

-- a walk goes on over some words
abbrev walk_on : List Rule → Walk → List Text → Walk
walk_on rules now words = fold (walked rules []) now words

-- the walk goes on over the words of a number of steps
last_walked : (runner : Runner) (path fonts : Text) (until : Option ℕ) (count : Text) → IfSome until (λ n. count_of count ≡ Some n)
    → walk_on (rules (command_of runner)) (after_fonts (id_of runner) path fonts) (until_words until count) ≡ runner_ended (id_of runner) path fonts until count
last_walked runner path fonts None count is = refl
last_walked runner path fonts (Some n) count is =
    ap (λ w. walked (rules (command_of runner)) [] w count) (until_walked runner path fonts) ∙ count_walked runner path fonts count (count_is_plain count n is)

runner_walked : (runner : Runner) (path fonts : Text) (until : Option ℕ) (count : Text) → begins_with_hyphen path ≡ false → begins_with_hyphen fonts ≡ false
    → IfSome until (λ n. count_of count ≡ Some n)
    → walk (rules (command_of runner)) [] nothing_held (path ∷ codes "--fonts" ∷ fonts ∷ until_words until count)
    ≡ runner_ended (id_of runner) path fonts until count
runner_walked runner path fonts until count plain_path plain_fonts is =
    let rs = rules (command_of runner) in
    ap (λ w. walk_on rs (walked rs [] (walked rs [] w (codes "--fonts")) fonts) (until_words until count)) (first_walked (command_of runner) path plain_path)
    ∙ ap (λ w. walk_on rs (walked rs [] w fonts) (until_words until count)) (flag_walked runner path)
    ∙ ap (λ w. walk_on rs w (until_words until count)) (fonts_walked runner path fonts plain_fonts)
    ∙ last_walked runner path fonts until count is

words_walked : (request : Request) (count : Text) → IsSound request count → walk (rules (command_for request)) [] nothing_held (words_after request count)
    ≡ ended request count
words_walked (asm text script) count (plain, is) = ap (λ w. walked (rules assembles) [] w script) (first_walked assembles text plain.0)
    ∙ second_walked text script plain.1
words_walked (dis script) count (plain, is) = first_walked prints script plain
words_walked (run script fonts until) count (plain, is) = runner_walked of_script script fonts until count plain.0 plain.1 is
words_walked (go text fonts until) count (plain, is) = runner_walked of_text text fonts until count plain.0 plain.1 is

-- a walk passes where its first word does and the rest do
turn_passed : (shape : Shape) (now next : Walk) (word : Text) (rest : List Text) → turn_fault shape [] now word ≡ [] → walked shape.rules [] now word ≡ next
    → walk_fault shape [] now (word ∷ rest) ≡ walk_fault shape [] next rest
unfolding walk_fault
turn_passed shape now next word rest passes steps =
    ap (λ k. or_else k (walk_fault shape [] (walked shape.rules [] now word) rest)) passes ∙ ap (λ w. walk_fault shape [] w rest) steps

last_passes : (runner : Runner) (path fonts : Text) (until : Option ℕ) (count : Text) → IfSome until (λ n. count_of count ≡ Some n)
    → walk_fault (built (command_of runner)) [] (after_fonts (id_of runner) path fonts) (until_words until count) ≡ []
unfolding walk_fault
last_passes runner path fonts None count is = refl
last_passes runner path fonts (Some n) count is =
    let command = command_of runner in
    let id = id_of runner in
    let plain = count_is_plain count n is in
    turn_passed (built command) (after_fonts id path fonts) (after_until id path fonts) (codes "--until") (count ∷ []) (until_passes runner path fonts)
    (until_walked runner path fonts)
    ∙ turn_passed (built command) (after_until id path fonts) (after_count id path fonts count) count [] (count_passes runner path fonts count plain)
    (count_walked runner path fonts count plain)

runner_passes : (runner : Runner) (path fonts : Text) (until : Option ℕ) (count : Text) → begins_with_hyphen path ≡ false → begins_with_hyphen fonts ≡ false
    → IfSome until (λ n. count_of count ≡ Some n)
    → walk_fault (built (command_of runner)) [] begun (path ∷ codes "--fonts" ∷ fonts ∷ until_words until count) ≡ []
runner_passes runner path fonts until count plain_path plain_fonts is =
    let command = command_of runner in
    let id = id_of runner in
    let last = until_words until count in
    turn_passed (built command) begun (after_first id path) path (codes "--fonts" ∷ fonts ∷ last) (first_passes command path plain_path)
    (first_walked command path plain_path)
    ∙ turn_passed (built command) (after_first id path) (after_flag id path) (codes "--fonts") (fonts ∷ last) (flag_passes runner path)
    (flag_walked runner path)
    ∙ turn_passed (built command) (after_flag id path) (after_fonts id path fonts) fonts last (fonts_pass runner path fonts plain_fonts)
    (fonts_walked runner path fonts plain_fonts)
    ∙ last_passes runner path fonts until count is

words_pass : (request : Request) (count : Text) → IsSound request count → walk_fault (built (command_for request)) [] begun (words_after request count) ≡ []
unfolding walk_fault
words_pass (asm text script) count (plain, is) =
    let middle = after_first (codes "TEXT") text in
    turn_passed (built assembles) begun middle text (script ∷ []) (first_passes assembles text plain.0) (first_walked assembles text plain.0)
    ∙ turn_passed (built assembles) middle (after_second text script) script [] (second_passes text script plain.1) (second_walked text script plain.1)
words_pass (dis script) count (plain, is) = turn_passed (built prints) begun (after_first (codes "BIN") script) script [] (first_passes prints script plain)
    (first_walked prints script plain)
words_pass (run script fonts until) count (plain, is) = runner_passes of_script script fonts until count plain.0 plain.1 is
words_pass (go text fonts until) count (plain, is) = runner_passes of_text text fonts until count plain.0 plain.1 is

-- ---- what the words ask for

-- what the matches of a command ask for
abbrev asked_by : Command → List Row → Option Request
asked_by assembles rows = asm_asked rows
asked_by prints rows = dis_asked rows
asked_by runs rows = run_asked rows
asked_by goes rows = go_asked rows

-- the matches, and how they judge the number of steps, are those of the command on the words after it
abbrev rows_behind : Request → Text → List Row
rows_behind request count = finished (rules (command_for request)) (walk (rules (command_for request)) [] nothing_held (words_after request count)).held

command_met : (program : Text) (request : Request) (count : Text) → request_of_words (program ∷ request_words_with_limit_word request count)
    ≡ asked_by (command_for request) (rows_behind request count)
unfolding clap_on_literals
command_met program (asm text script) count = refl
command_met program (dis script) count = refl
command_met program (run script fonts None) count = refl
command_met program (run script fonts (Some n)) count = refl
command_met program (go text fonts None) count = refl
command_met program (go text fonts (Some n)) count = refl

count_met : (program : Text) (request : Request) (count : Text) → has_bad_limit_word (program ∷ request_words_with_limit_word request count)
    ≡ is_bad_count (first_of (codes "until") (rows_behind request count))
unfolding clap_on_literals
count_met program (asm text script) count = refl
count_met program (dis script) count = refl
count_met program (run script fonts None) count = refl
count_met program (run script fonts (Some n)) count = refl
count_met program (go text fonts None) count = refl
count_met program (go text fonts (Some n)) count = refl

-- which are those of the request
abbrev ended_rows : Request → Text → List Row
ended_rows request count = finished (rules (command_for request)) (ended request count).held

ended_asks : (request : Request) (count : Text) → IfSome (until_in request) (λ n. count_of count ≡ Some n) →
    asked_by (command_for request) (ended_rows request count) ≡ Some request
unfolding clap_on_literals
ended_asks (asm text script) count is = refl
ended_asks (dis script) count is = refl
ended_asks (run script fonts None) count is = refl
ended_asks (run script fonts (Some n)) count is = ap (λ (u : Option ℕ). Some (run script fonts u)) is
ended_asks (go text fonts None) count is = refl
ended_asks (go text fonts (Some n)) count is = ap (λ (u : Option ℕ). Some (go text fonts u)) is

ended_counts : (request : Request) (count : Text) → IfSome (until_in request) (λ n. count_of count ≡ Some n) →
    is_bad_count (first_of (codes "until") (ended_rows request count)) ≡ false
unfolding clap_on_literals
ended_counts (asm text script) count is = refl
ended_counts (dis script) count is = refl
ended_counts (run script fonts None) count is = refl
ended_counts (run script fonts (Some n)) count is = good_count count n is
ended_counts (go text fonts None) count is = refl
ended_counts (go text fonts (Some n)) count is = good_count count n is

request_asked : (program : Text) (request : Request) (count : Text) → IsSound request count → request_of_words (program ∷ request_words_with_limit_word request count) ≡ Some request
request_asked program request count sound =
    command_met program request count
    ∙ ap (λ (w : Walk). asked_by (command_for request) (finished (rules (command_for request)) w.held)) (words_walked request count sound)
    ∙ ended_asks request count sound.1

request_counts : (program : Text) (request : Request) (count : Text) → IsSound request count → has_bad_limit_word (program ∷ request_words_with_limit_word request count) ≡ false
request_counts program request count sound =
    count_met program request count
    ∙ ap (λ (w : Walk). is_bad_count (first_of (codes "until") (finished (rules (command_for request)) w.held))) (words_walked request count sound)
    ∙ ended_counts request count sound.1

-- ---- nothing is amiss with the words

-- what is amiss with a use of a command, by what is amiss with its words and by what they leave
abbrev command_fault : Command → Kinds → Held → Kinds
command_fault command amiss held = or_else amiss (or_else [] (or_else (settle_fault (rules command) false held)
    (or_else (defaults_fault (settled (rules command) held).rows (rules command)) (check_fault (built command) (finished (rules command) held) false))))

-- the command line finds nothing amiss but in the use of the command
amiss_in_command : (program : Text) (request : Request) (count : Text) → fault_of command_line (program ∷ request_words_with_limit_word request count)
    ≡ or_else (command_fault (command_for request) (walk_fault (built (command_for request)) [] begun (words_after request count))
    (walk (rules (command_for request)) [] nothing_held (words_after request count)).held) []
unfolding clap_on_literals
amiss_in_command program (asm text script) count = refl
amiss_in_command program (dis script) count = refl
amiss_in_command program (run script fonts None) count = refl
amiss_in_command program (run script fonts (Some n)) count = refl
amiss_in_command program (go text fonts None) count = refl
amiss_in_command program (go text fonts (Some n)) count = refl

-- nothing that is required is left out
nothing_lacks : (request : Request) (count : Text) → command_fault (command_for request) [] (ended request count).held ≡ []
unfolding clap_on_literals
nothing_lacks (asm text script) count = refl
nothing_lacks (dis script) count = refl
nothing_lacks (run script fonts None) count = refl
nothing_lacks (run script fonts (Some n)) count = refl
nothing_lacks (go text fonts None) count = refl
nothing_lacks (go text fonts (Some n)) count = refl

request_passes : (program : Text) (request : Request) (count : Text) → IsSound request count → fault_of command_line (program ∷ request_words_with_limit_word request count) ≡ []
request_passes program request count sound =
    let command = command_for request in
    amiss_in_command program request count
    ∙ ap (λ k. or_else (command_fault command k (walk (rules command) [] nothing_held (words_after request count)).held) []) (words_pass request count sound)
    ∙ ap (λ (w : Walk). or_else (command_fault command [] w.held) []) (words_walked request count sound)
    ∙ ap (λ k. or_else k []) (nothing_lacks request count)

-- ---- what `job` answers

-- the request, unless memory runs out
pub names_paths : (words : List Text) (result : Result Job Failure) → JobAnswers words result → WordsGiveJobOfRequest words result
names_paths words result answer program request count are plain is =
    let sound : IsSound request count = (plain, is) in
    go_on result (subst (λ (ws : List Text). JobAnswers ws result) are answer) (request_asked program request count sound)
    (request_counts program request count sound)
    (request_passes program request count sound)
  where
    go_on : (r : Result Job Failure) → JobAnswers (program ∷ request_words_with_limit_word request count) r → request_of_words (program ∷ request_words_with_limit_word request count) ≡ Some request
        → has_bad_limit_word (program ∷ request_words_with_limit_word request count) ≡ false → fault_of command_line (program ∷ request_words_with_limit_word request count) ≡ []
        → MatchResult r (λ job. request_of job ≡ request) (λ failure. failure ≡ Fault OutOfMemory)
    go_on (Ok job) answer asks counts passes = let same : Some (request_of job) ≡ Some request = sym answer.2 ∙ asks in cc
    go_on (Err (Words (Refused error))) (usable, inl among) asks counts passes = absurd (subst (IsAmong (kind_of error)) passes among)
    go_on (Err (Words (Refused error))) (usable, inr (pass, bad, kind)) asks counts passes = let both : false ≡ true = sym counts ∙ bad in cc
    go_on (Err (Words Missing)) answer asks counts passes = let bad : Some request ≡ None = sym asks ∙ answer.2 in cc
    go_on (Err (Fault fault)) answer asks counts passes = ap Fault answer
