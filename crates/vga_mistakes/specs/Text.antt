-- The mistakes of texts.
use Rattle.std.specs.Prelude.{ℕ, ◌<◌, ◌≤◌, ◌+◌, ◌-◌, List, length, slice_get, IfSome}
use Rattle.vga_mistakes.specs.declared.mistake.Mistake.{Mistake}
use Rattle.vga_mistakes.specs.declared.text_mistake.TextMistake.{TextMistake}
use Rattle.vga_mistakes.specs.declared.text_mistake.TextMistake.TheVariants.{LongText, LongScript, InLine}
use Rattle.vga_script.specs.Script.{SpellsTooLongScript}
use Rattle.vga_script.specs.Spelling.{script_limit}
use Rattle.vga_script.specs.Text.{IsFirstBadLine}
use Rattle.vga_script.specs.Tokens.{lines}

-- The first mistake of a text: it is too long; or this line is its first bad one; or it spells a
-- script that is too long.
abbrev pub IsMistakeOfText : List ℕ → TextMistake → Type 0
IsMistakeOfText text LongText = script_limit < length text
IsMistakeOfText text LongScript = (length text ≤ script_limit) × SpellsTooLongScript text
IsMistakeOfText text (InLine number mistake) = (length text ≤ script_limit)
    × IsFirstBadLine text number

-- the mistake lies in the line of this number, from 1
abbrev pub LiesInLine : List ℕ → ℕ → Mistake → Type 0
LiesInLine text number mistake =
    IfSome (slice_get (lines text) (number - 1)) (λ line. mistake.start + mistake.length ≤ length line)

-- the mistake lies in its line, if it is one of a line
abbrev pub LiesInText : List ℕ → TextMistake → Type 0
LiesInText text LongText = Unit {0}
LiesInText text LongScript = Unit {0}
LiesInText text (InLine number mistake) = LiesInLine text number mistake
