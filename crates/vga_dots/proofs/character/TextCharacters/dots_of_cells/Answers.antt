-- Blinking and underline are those of the line.
use Rattle.std.proofs.Common.{◌==◌, ℕ, Bool, not, bit_and, arith, refl, subst, sym}
use Rattle.vga_bits.specs.Bits.{field}
use Rattle.vga_dots.specs.Text.{background, is_blinked_away, is_underlined}
use Rattle.vga_dots.specs.Line.{colour_by_palette}
use Rattle.vga_dots.specs.EightDots.{AreEightDotsOfColour, AreGroundAndChange}
use Rattle.vga_dots.specs.Character.{cell_of}
use Rattle.vga_dots.proofs.CharacterLemmas.{glyph_colour, ground_colour, low}
use Rattle.vga_dots.proofs.TextLineLemmas.{background_of, blinked_away, underlined}
use Rattle.vga_dots.proofs.character.TextCharacters.dots_of_cells.Goals as goal

pub returns-clause-dots : goal.returns-clause-dots
returns-clause-dots c =
    let d = c.args.display.now in
    let line = c.args.self.now.line in
    let is = c.requires.text.line in
    let attribute = c.args.attribute in
    let fore = c.eight_dots-fore.result in
    let back = c.eight_dots-back.result in
    let colour = colour_by_palette d.attr d.dac in
    let is_fore = subst (λ (n : ℕ). AreEightDotsOfColour fore (colour n)) (low attribute) c.eight_dots-fore.ensures.dots in
    let is_back : (character : ℕ) → AreEightDotsOfColour back (colour (background d.attr (cell_of attribute character))) =
    λ character. subst (λ (n : ℕ). AreEightDotsOfColour back (colour n))
    (background_of d.host d.crtc d.attr line is (cell_of attribute character) _ c.background.ensures.value) c.eight_dots-back.ensures.dots in
    let dots = c.ground_and_change.result in
    let chosen : (character : ℕ) → AreGroundAndChange dots (colour (field attribute 3 0)) (colour (background d.attr (cell_of attribute character)))
    (is_blinked_away d.crtc d.attr (cell_of attribute character)) (is_underlined d.crtc d.attr (cell_of attribute character)) =
    λ character. let cell = cell_of attribute character in
    let f = colour (field attribute 3 0) in
    let b = colour (background d.attr cell) in
    let away = blinked_away d.host d.crtc d.attr line is cell _ (omega arith) refl in
    let under = underlined d.host d.crtc d.attr line is cell _ refl in
    subst (λ (v : Bool). AreGroundAndChange dots f b v (is_underlined d.crtc d.attr cell)) (sym away)
    (subst (λ (v : Bool). AreGroundAndChange dots f b (not (bit_and attribute line.blinked_away == 0)) v) (sym under)
    (c.ground_and_change.ensures f b is_fore (is_back character))) in
    record {
      glyph = λ character. let cell = cell_of attribute character in
          glyph_colour dots colour (field attribute 3 0) (background d.attr cell) (is_blinked_away d.crtc d.attr cell) (is_underlined d.crtc d.attr cell) (chosen character);
      ground = λ character. let cell = cell_of attribute character in
          ground_colour dots colour (field attribute 3 0) (background d.attr cell) (is_blinked_away d.crtc d.attr cell) (is_underlined d.crtc d.attr cell) (chosen character);
    }
