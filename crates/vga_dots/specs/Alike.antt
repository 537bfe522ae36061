-- Characters of a line that look alike. These definitions serve speed alone.
use Rattle.std.specs.Prelude.{◌≡◌, ℕ, ◌-◌, ◌<◌, ◌≤◌, List, false}
use Rattle.vga_dots.specs.declared.text.Cell.{Cell}
use Rattle.vga_dots.specs.SourceDot.{fetch_address}
use Rattle.vga_dots.specs.Text.{cell_at, is_cursor_at}
use Rattle.vga_dots.specs.Display.{DisplayState}

-- a counter has this cell, and no cursor
pub record IsCursorlessCell (display : DisplayState) (counter : ℕ) (held : Cell) : Type 0 where
  pub cell : cell_at display.host (fetch_address display.crtc.registers counter) ≡ held
  pub plain : is_cursor_at display.crtc counter ≡ false

-- the characters from number n up to m have the dots of the one before them
abbrev pub RepeatCharacterBefore : ℕ → ℕ → (ℕ → ℕ → List ℕ) → Type 0
RepeatCharacterBefore n m f = (x i : ℕ) → n ≤ x → x < m → f (n - 1) i ≡ f x i
