-- Lines of repeats.
use Rattle.std.proofs.Common.{◌≡◌, ℕ, ◌↔◌, Bool, false, IsTrue, List, ⊎_elim}
use Rattle.vga_script.specs.declared.version.Version.{Version}
use Rattle.vga_script.specs.Text.{SpellsBeginningOfRepeat, IsRepeatEndLine}
use Rattle.vga_script.specs.Tokens.{words}
use Rattle.vga_script.specs.Version.{AllowsRepeats}
use Rattle.vga_mistakes.specs.Line.{IsLineOfRepeat}

-- a line that neither begins nor ends a repeat is none of a repeat
pub no_repeat : (version : Version) (line : List ℕ) (ends : Bool) →
    (AllowsRepeats version → (count : ℕ) → SpellsBeginningOfRepeat (words line) count → ⊥) →
    (IsTrue ends ↔ IsRepeatEndLine (words line)) → ends ≡ false → IsLineOfRepeat version line → ⊥
no_repeat version line ends begins same is_false of_repeat =
    ⊎_elim (λ b. begins of_repeat.0 b.0 b.1) (λ e. let yes = same.1 e in absurd (cc)) of_repeat.1
