-- What is wrong in a text that is no script, as the caller gets it.
use Rattle.std.specs.Prelude.{◌≡◌, ◌⊎◌, ℕ, List, []}
use Rattle.vga_script.specs.Item.{ScriptItems}
use Rattle.vga_script.specs.Script.{IsScript}
use Rattle.vga_script.specs.Text.{SpellsText}
use Rattle.vga_mistakes.specs.declared.mistake_kind.MistakeKind.{MistakeKind}
use Rattle.vga_mistakes.specs.declared.mistake_kind.MistakeKind.TheVariants as kind
use Rattle.vga_mistakes.specs.declared.text_mistake.TextMistake.{TextMistake}
use Rattle.vga_mistakes.specs.declared.text_mistake.TextMistake.TheVariants.{LongText, LongScript, InLine}
use Rattle.vga_mistakes.specs.Text.{IsMistakeOfText, LiesInText}
use Rattle.vga_c.specs.declared.mistakes.LineMistake.{LineMistake}
use Rattle.vga_c.specs.Buffers.{IsCopied}
use Rattle.vga_c.specs.Status.{out_of_memory_status}

-- The caller's output: what is told of the mistake, a sentence, and its length.
pub record MistakeOutput : Type 0 where
  pub mistake : LineMistake
  pub sentence : List ℕ
  pub len : ℕ

-- an output with these contents
abbrev pub mistake_output : LineMistake → List ℕ → ℕ → MistakeOutput
mistake_output mistake sentence len =
    record { mistake = mistake; sentence = sentence; len = len }

-- what is told of a text with no mistake
abbrev pub no_mistake : LineMistake
no_mistake = record { line = 0; start = 0; length = 0; kind = 0 }

-- the number of a kind of mistakes
abbrev pub mistake_kind_number : MistakeKind → ℕ
mistake_kind_number (kind.Character mistake) = 1
mistake_kind_number kind.Comment = 2
mistake_kind_number (kind.Step mistake) = 3
mistake_kind_number (kind.Form mistake) = 4
mistake_kind_number (kind.Number mistake) = 5
mistake_kind_number (kind.Show mistake) = 6
mistake_kind_number (kind.Call mistake) = 7
mistake_kind_number (kind.Block mistake) = 8
mistake_kind_number (kind.Order mistake) = 9
mistake_kind_number kind.Unknown = 10

-- what is told of a mistake: its line, the part of it, and its kind
abbrev pub told_mistake : TextMistake → LineMistake
told_mistake LongText = record { line = 0; start = 0; length = 0; kind = 11 }
told_mistake LongScript = record { line = 0; start = 0; length = 0; kind = 12 }
told_mistake (InLine number mistake) = record {
  line = number;
  start = mistake.start;
  length = mistake.length;
  kind = mistake_kind_number mistake.kind;
}

-- the mistake is told, with a sentence
abbrev pub IsMistakeTold : TextMistake → MistakeOutput → MistakeOutput → ℕ → Type 0
IsMistakeTold mistake before after status = (after.mistake ≡ told_mistake mistake)
    × ((sentence : List ℕ) × IsCopied sentence before.sentence after.sentence after.len status)

-- the text spells a script: nothing is told, and there is no sentence
abbrev pub IsNoMistakeTold : List ℕ → MistakeOutput → MistakeOutput → ℕ → Type 0
IsNoMistakeTold text before after status =
    ((script : ScriptItems) × SpellsText text script × IsScript script)
    × (after.mistake ≡ no_mistake) × IsCopied [] before.sentence after.sentence after.len status

-- the text spells no script, and its first mistake is told
abbrev pub IsFirstMistakeTold : List ℕ → MistakeOutput → MistakeOutput → ℕ → Type 0
IsFirstMistakeTold text before after status = (mistake : TextMistake)
    × IsMistakeOfText text mistake × LiesInText text mistake
    × IsMistakeTold mistake before after status

-- an allocation failed, and nothing is told
abbrev pub IsNotTold : MistakeOutput → MistakeOutput → ℕ → Type 0
IsNotTold before after status = (after ≡ before) × (status ≡ out_of_memory_status)

-- the first mistake in a text is told, if there is one; or an allocation failed
abbrev pub GivesMistakeOfText : List ℕ → MistakeOutput → MistakeOutput → ℕ → Type 0
GivesMistakeOfText text before after status = IsNoMistakeTold text before after status
    ⊎ IsFirstMistakeTold text before after status ⊎ IsNotTold before after status
