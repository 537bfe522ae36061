-- The report of a script: a line for each step, with its number and its answer, and after the line
-- of a frame its picture.
use Rattle.std.specs.Prelude.{◌≡◌, ℕ, ◌+◌, ◌==◌, if◌then◌else◌, List, [], ◌∷◌, ◌++◌, length, take}
use Rattle.std.specs.Prelude.{Option, None, Some, codes, decimal}
use Rattle.std.specs.List.{flat_map}
use Rattle.vga_bits.specs.Refusal.{refusal_name}
use Rattle.vga_bits.specs.Hex.{two_hex_digits, four_hex_digits}
use Rattle.vga_script.specs.declared.step.Step.{Step}
use Rattle.vga_script.specs.declared.step.Step.TheVariants.{Show}
use Rattle.vga_script.specs.declared.dump_range.Shown.TheVariants as shown
use Rattle.vga_run.specs.declared.answer.Answer.{Answer}
use Rattle.vga_run.specs.declared.answer.Answer.TheVariants.{Done, Byte, Word, Refused}
use Rattle.bios_modes.specs.Fonts.{FontSet}
use Rattle.bios_services.specs.declared.regs.Regs.{Regs}
use Rattle.vga_run.specs.declared.machine.Machine.{Machine}
use Rattle.vga_run.specs.Machine.{power_on_machine}
use Rattle.vga_show.specs.Ppm.{ppm}
use Rattle.vga_run.specs.Answer.{StepAnswer, Short, Served, Picture, Ragged, Dump}
use Rattle.vga_run.specs.Step.{answer_to, after_step}

-- the text of four registers
unfoldable pub registers_text : Regs → List ℕ
registers_text r = codes "ax=" ++ (four_hex_digits r.ax ++ (codes " bx="
    ++ (four_hex_digits r.bx ++ (codes " cx=" ++ (four_hex_digits r.cx
    ++ (codes " dx=" ++ four_hex_digits r.dx))))))

-- the text of a table after four registers: the word `block`, and two digits for each byte; an
-- empty table has none
abbrev pub table_text : List ℕ → List ℕ
table_text table =
    if length table == 0 then [] else codes " block " ++ flat_map two_hex_digits table

-- the text of an answer: `ok`, the two digits of a byte, the four of a word, or the name of the
-- refusal
abbrev pub answer_text : Answer → List ℕ
answer_text Done = codes "ok"
answer_text (Byte value) = two_hex_digits value
answer_text (Word value) = four_hex_digits value
answer_text (Refused refusal) = refusal_name refusal

-- the number of a step in decimal, and a blank
unfoldable pub number_text : ℕ → List ℕ
number_text n = decimal n ++ codes " "

-- a line begins with the number of step n and a blank, which are `prefix` bytes
pub record BeginsWithNumber (text : List ℕ) (prefix n : ℕ) : Type 0 where
  pub is : take prefix text ≡ number_text n
  pub whole : prefix ≡ length (number_text n)

-- the line of step n before a picture of `len` bytes
unfoldable pub line_before_picture : ℕ → ℕ → List ℕ
line_before_picture n len = decimal n ++ (codes " picture " ++ (decimal len ++ codes "\n"))

-- the line of step n: its number in decimal, a blank, its answer, and a newline; a picture follows
-- the line that gives its length, with a newline of its own, and a dump has its own lines
unfoldable pub line : ℕ → StepAnswer → List ℕ
line n (Short answer) = decimal n ++ (codes " " ++ (answer_text answer ++ codes "\n"))
line n (Served regs table) = (number_text n ++ registers_text regs)
    ++ (table_text table ++ codes "\n")
line n (Picture width height bytes) =
    let picture = ppm width height bytes in
    line_before_picture n (length picture) ++ (picture ++ codes "\n")
line n Ragged = decimal n ++ codes " ragged\n"
line n (Dump text) = number_text n ++ text

-- the lines of these steps on this machine; the first has the number n
abbrev pub report_from : Machine → ℕ → List Step → List ℕ
report_from m n [] = []
report_from m n (step ∷ steps) = line n (answer_to m step)
    ++ report_from (after_step m step) (n + 1) steps

-- the dumps after the last step of a limited run: registers, beam, latches and BIOS data
abbrev pub closing_dumps : List Step
closing_dumps =
    Show shown.Registers ∷ Show shown.Beam ∷ Show shown.Latches ∷ Show shown.BiosData ∷ []

-- the steps of a run: all of a script; or with a limit the first ones, all if there are fewer, and
-- then the last dumps
abbrev pub steps_until : Option ℕ → List Step → List Step
steps_until None steps = steps
steps_until (Some most) steps = take most steps ++ closing_dumps

-- the report of a script with these fonts: its steps run from power-on, and are numbered from 1
abbrev pub report_of : FontSet → List Step → List ℕ
report_of fonts steps = report_from (power_on_machine fonts) 1 steps
