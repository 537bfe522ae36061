-- Characters of text that look alike, and dots that are put again.
use Rattle.std.proofs.Common.{◌≡◌, ℕ, ◌+◌, ◌*◌, ◌<◌, refl, sym, ap, ◌∙◌, arith, Bool, true, false, List, slice_index}
use Rattle.std.specs.Prelude.{if◌then◌else◌}
use Rattle.vga_bits.specs.Bits.{field}
use Rattle.vga_dots.specs.declared.text.Cell.{Cell}
use Rattle.vga_dots.specs.Text.{text_nibble, is_foreground, is_cursor_at, is_blinked_away, is_underlined, is_glyph_dot, glyph_row, background}
use Rattle.vga_dots.specs.Display.{DisplayState, ShowsText}
use Rattle.vga_dots.specs.Line.{colour_by_palette, dot_of_counter, colour_of_source_dot}
use Rattle.vga_dots.specs.Row.{bytes_of_dot, AreDotsPut, AreCharactersPut}
use Rattle.vga_dots.specs.Alike.{IsCursorlessCell}
use Rattle.vga_dots.proofs.CharacterLemmas.{cell, text_shown}
use Rattle.vga_dots.proofs.RowLemmas.{dot_byte}

module _ (d : DisplayState) (i : ℕ) where
  -- the four bits of a dot by whether the cursor is there, and by its cell
  abbrev nibble_by : Bool → Cell → ℕ
  nibble_by cursor cell =
      if (if cursor then true else if is_blinked_away d.crtc d.attr cell then false else if is_underlined d.crtc d.attr cell then true
      else is_glyph_dot d.attr cell.character (glyph_row d.host cell d.crtc.beam.scan) i)
      then field cell.attribute 3 0 else background d.attr cell

  nibble_is : (n : ℕ) → text_nibble d.host d.crtc d.attr (dot_of_counter n i) ≡ nibble_by (is_cursor_at d.crtc n) (cell d n)
  unfolding text_nibble is_foreground
  nibble_is n = refl

  nibble_of_cell : (n : ℕ) (c : Cell) → IsCursorlessCell d n c → text_nibble d.host d.crtc d.attr (dot_of_counter n i) ≡ nibble_by false c
  nibble_of_cell n c has = nibble_is n ∙ ap (λ v. nibble_by v (cell d n)) has.plain ∙ ap (nibble_by false) has.cell

  -- two counters with one cell, and no cursor, look alike
  pub one_look : (n m : ℕ) (c : Cell) → ShowsText d → IsCursorlessCell d n c → IsCursorlessCell d m c → colour_of_source_dot d (dot_of_counter n i) ≡ colour_of_source_dot d (dot_of_counter m i)
  one_look n m c shows one other =
      sym (text_shown d n i shows) ∙ ap (colour_by_palette d.attr d.dac) (nibble_of_cell n c one ∙ sym (nibble_of_cell m c other)) ∙ text_shown d m i shows

-- dots that are put again are those of a character that looks alike
pub again : (cw n drawn x : ℕ) (f : ℕ → ℕ → List ℕ) (old row blank dots row0 row1 : List ℕ) → n < drawn → AreCharactersPut cw drawn f old row
    → AreDotsPut cw 0 (λ i. bytes_of_dot row (n * cw + i)) blank dots → AreDotsPut cw (x * cw) (bytes_of_dot dots) row0 row1 → ((i : ℕ) → f n i ≡ f x i)
    → AreDotsPut cw (x * cw) (f x) row0 row1
again cw n drawn x f old row blank dots row0 row1 some before copied put same = record {
  inside = λ i j li lj.
      let place : 3 * i + j ≡ 3 * (0 + i) + j = omega arith in
      put.inside i j li lj ∙ dot_byte dots i j lj ∙ ap (slice_index dots) place ∙ copied.inside i j li lj
      ∙ dot_byte row (n * cw + i) j lj ∙ before.inside n i j some li lj ∙ ap (λ c. slice_index c j) (same i);
  outside = put.outside;
}
