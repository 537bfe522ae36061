-- The colours of a line of text that were looked up until now. These definitions serve speed alone.
use Rattle.std.specs.Prelude.{◌≡◌, ℕ, ◌<◌, Bool, true, slice_index_or}
use Rattle.vga_dots.specs.declared.eight_dots.EightDots.{EightDots}
use Rattle.vga_dots.specs.declared.text_colours.TextColours.{TextColours}
use Rattle.vga_dots.specs.Line.{colour_by_palette}
use Rattle.vga_dots.specs.EightDots.{AreEightDotsOfColour}
use Rattle.vga_dots.specs.Display.{DisplayState}

-- whether the colour of n was looked up
abbrev pub is_known : TextColours → ℕ → Bool → Bool
is_known colours n other = slice_index_or colours.are_known n other

-- where a colour was looked up, the dots have the display's colour of this number
pub record AreTextColoursOf (colours : TextColours) (display : DisplayState) : Type 0 where
  pub places : (n : ℕ) (unknown : Bool) (other : EightDots) → n < 16 → is_known colours n unknown ≡ true →
      AreEightDotsOfColour (slice_index_or colours.dots n other) (colour_by_palette display.attr display.dac n)
