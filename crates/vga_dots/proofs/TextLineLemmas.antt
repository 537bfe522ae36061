-- What is looked up once for a line is what each of its characters asks for.
use Rattle.std.proofs.Common.{◌≡◌, ℕ, ◌+◌, ◌*◌, ◌/◌, ◌%◌, ◌<◌, ◌≤◌, refl, sym, ap, ◌∙◌, arith, Bool, true, false}
use Rattle.std.specs.Prelude.{◌==◌, ◌&&◌, not, nat_lt, nat_le, bit_and, if◌then◌else◌}
use Rattle.std.specs.Int.{bit_at}
use Rattle.std.proofs.lemmas.Bool.{ne_eqb}
use Rattle.std.proofs.lemmas.Bool.Decides.{nat_tests}
use Rattle.std.proofs.lemmas.Nat.{and_le_r, and_mask}
use Rattle.std.proofs.lemmas.Nat.Bits.{and_high_mask}
use Rattle.vga_bits.specs.Bits.{is_set, field}
use Rattle.vga_planes.specs.Planes.{byte_at}
use Rattle.vga_host.specs.Host.{HostState}
use Rattle.vga_host.specs.Sequencer.{character_map_a, character_map_b}
use Rattle.vga_crtc.specs.Crtc.{CrtcState}
use Rattle.vga_crtc.specs.Fields.{cursor_start, is_cursor_off, cursor_end, cursor_location, underline_location}
use Rattle.vga_attr.specs.Attr.{AttrState}
use Rattle.vga_attr.specs.Fields.{is_monochrome, is_line_graphics, is_blink}
use Rattle.vga_dots.specs.declared.text.Cell.{Cell}
use Rattle.vga_dots.specs.declared.text_line.TextLineSettings.{TextLineSettings}
use Rattle.vga_dots.specs.Text.{map_start, glyph_row, is_glyph_dot, is_underlined, is_blinked_away, is_cursor_at, background}
use Rattle.vga_dots.specs.TextLine.{text_line}

-- the last two of three in the other order
last_two : (x y z : Bool) → ((x && y) && z) ≡ (x && z && y)
last_two true true true = refl
last_two true true false = refl
last_two true false true = refl
last_two true false false = refl
last_two false y z = refl

-- five of which the last four stand together
together : (v w x y z : Bool) → (v && (w && x && y && z)) ≡ (v && w && x && y && z)
together true w x y z = refl
together false w x y z = refl

-- a fact beside one that is always so, or never
and_true : (x : Bool) → x ≡ (x && true)
and_true true = refl
and_true false = refl

and_false : (x : Bool) → false ≡ (x && false)
and_false true = refl
and_false false = refl

-- ---- each number of a line by what it stands for

-- a counter is the cursor's, or 65536, which it is not
counter_is : (shown : Bool) (n place : ℕ) → n < 65536 → (n == (if shown then place else 65536)) ≡ (n == place && shown)
counter_is true n place below = and_true (n == place)
counter_is false n place below = ne_eqb n 65536 (λ e. absurd (omega (arith, e, below))) ∙ and_false (n == place)

-- a mask of bit 7 leaves something of those that have it, and a mask of no bit nothing
blinks : (away : Bool) (n : ℕ) → n < 256 → not (bit_and n (if away then 128 else 0) == 0) ≡ (away && is_set n 7)
blinks true n below = let e = and_high_mask 8 7 (omega arith) n below in grind (arith, nat_tests, e)
blinks false n below = let e : bit_and n 0 ≡ 0 = omega (arith, and_le_r n 0) in ap (λ m. not (m == 0)) e

-- bits 0x77 are 1, or 0xFF, which they are not
underlining : (here : Bool) (n : ℕ) → (bit_and n 0x77 == (if here then 1 else 0xFF)) ≡ (here && bit_and n 0x77 == 1)
underlining true n = refl
underlining false n = ne_eqb (bit_and n 0x77) 0xFF (λ e. let most = and_le_r n 0x77 in absurd (omega (arith, e, most)))

-- the block of C0 to DF is the sixth of 32 characters, and none is the eighth
drawing : (on : Bool) (n : ℕ) → n < 256 → (n / 32 * 32 == (if on then 0xC0 else 0x100)) ≡ (on && nat_le 0xC0 n && nat_le n 0xDF)
drawing true n below = grind (arith, nat_tests)
drawing false n below = ne_eqb (n / 32 * 32) 0x100 (λ e. absurd (omega (arith, e, below)))

lowest : (on : Bool) (row : ℕ) → is_set (if on then row % 2 else 0) 0 ≡ (on && is_set row 0)
lowest true row = let e : bit_at (row % 2) 0 ≡ bit_at row 0 = omega arith in ap (λ b. b == 1) e
lowest false row = refl

-- three or four bits of an attribute, from bit 4 on
masked_background : (blink : Bool) (n : ℕ) → bit_and (n / 16) (if blink then 7 else 15) ≡ (if blink then field n 6 4 else field n 7 4)
masked_background true n = and_mask (n / 16) 3
masked_background false n = and_mask (n / 16) 4

-- the row is at the map's place in either order of the sum
row_in : (which : Bool) (a b scan character : ℕ) → (if which then map_start a + scan else map_start b + scan) + 32 * character
    ≡ map_start (if which then a else b) + 32 * character + scan
row_in true a b scan character = omega arith
row_in false a b scan character = omega arith

module _ (h : HostState) (c : CrtcState) (a : AttrState) where
  cursor : (n : ℕ) → n < 65536 → (n == (text_line h c a).cursor) ≡ is_cursor_at c n
  unfolding text_line is_cursor_at
  cursor n below = counter_is _ n (cursor_location c.registers) below ∙ together (n == cursor_location c.registers) (not (is_cursor_off c.registers))
      (nat_le (cursor_start c.registers) c.beam.scan) (nat_le c.beam.scan (cursor_end c.registers)) (nat_lt (c.beam.frame % 16) 8)

  blinked : (cell : Cell) → cell.attribute < 256 → not (bit_and cell.attribute (text_line h c a).blinked_away == 0) ≡ is_blinked_away c a cell
  unfolding text_line is_blinked_away
  blinked cell below = blinks (is_blink a && nat_le 16 c.beam.frame) cell.attribute below
      ∙ last_two (is_blink a) (nat_le 16 c.beam.frame) (is_set cell.attribute 7)

  underline : (cell : Cell) → (bit_and cell.attribute 0x77 == (text_line h c a).underlined) ≡ is_underlined c a cell
  unfolding text_line is_underlined
  underline cell = underlining (is_monochrome a && c.beam.scan == underline_location c.registers) cell.attribute
      ∙ last_two (is_monochrome a) (c.beam.scan == underline_location c.registers) (bit_and cell.attribute 0x77 == 1)

  row : (cell : Cell) → byte_at h.memory 2 ((if is_set cell.attribute 3 then (text_line h c a).map_a else (text_line h c a).map_b) + 32 * cell.character)
      ≡ glyph_row h cell c.beam.scan
  unfolding text_line glyph_row
  row cell = ap (byte_at h.memory 2) (row_in (is_set cell.attribute 3) (character_map_a h) (character_map_b h) c.beam.scan cell.character)

  blinking : (cell : Cell) → bit_and (cell.attribute / 16) (text_line h c a).background_mask ≡ background a cell
  unfolding text_line
  blinking cell = masked_background (is_blink a) cell.attribute

  graphics : (text_line h c a).nine_dot_block ≡ (if is_line_graphics a then 0xC0 else 0x100)
  unfolding text_line
  graphics = refl

-- one of two addresses of glyphs is as low as both
pub glyphs_bound : (which : Bool) (x y place : ℕ) → x ≤ 57375 → y ≤ 57375 → place ≡ (if which then x else y) → place ≤ 57375
glyphs_bound true x y place below_x below_y e = omega (arith, e, below_x)
glyphs_bound false x y place below_x below_y e = omega (arith, e, below_y)

-- what the settings of the beam's line say of a cell, from what a function answered
module _ (h : HostState) (c : CrtcState) (a : AttrState) (line : TextLineSettings) (is : line ≡ text_line h c a) (cell : Cell) where
  pub cursor_at : (n : ℕ) (v : Bool) → n < 65536 → v ≡ (n == line.cursor) → is_cursor_at c n ≡ v
  cursor_at n v below e = sym (e ∙ ap (λ (x : TextLineSettings). n == x.cursor) is ∙ cursor h c a n below)

  pub blinked_away : (v : Bool) → cell.attribute < 256 → v ≡ not (bit_and cell.attribute line.blinked_away == 0) → is_blinked_away c a cell ≡ v
  blinked_away v below e = sym (e ∙ ap (λ (x : TextLineSettings). not (bit_and cell.attribute x.blinked_away == 0)) is ∙ blinked h c a cell below)

  pub underlined : (v : Bool) → v ≡ (bit_and cell.attribute 0x77 == line.underlined) → is_underlined c a cell ≡ v
  underlined v e = sym (e ∙ ap (λ (x : TextLineSettings). bit_and cell.attribute 0x77 == x.underlined) is ∙ underline h c a cell)

  pub row_of_glyph : (place : ℕ) → place ≡ (if is_set cell.attribute 3 then line.map_a else line.map_b) + 32 * cell.character →
      byte_at h.memory 2 place ≡ glyph_row h cell c.beam.scan
  row_of_glyph place e = ap (byte_at h.memory 2) (e ∙ ap (λ (x : TextLineSettings). (if is_set cell.attribute 3 then x.map_a else x.map_b) + 32 * cell.character) is)
      ∙ row h c a cell

  pub background_of : (v : ℕ) → v ≡ bit_and (cell.attribute / 16) line.background_mask → v ≡ background a cell
  background_of v e = e ∙ ap (λ (x : TextLineSettings). bit_and (cell.attribute / 16) x.background_mask) is ∙ blinking h c a cell

  pub line_graphics : line.nine_dot_block ≡ (if is_line_graphics a then 0xC0 else 0x100)
  line_graphics = ap (λ (x : TextLineSettings). x.nine_dot_block) is ∙ graphics h c a

-- the ninth dot of a row
pub ninth_dot : (a : AttrState) (block character row v : ℕ) → character < 256 → block ≡ (if is_line_graphics a then 0xC0 else 0x100) →
    v ≡ (if character / 32 * 32 == block then row % 2 else 0) → is_set v 0 ≡ is_glyph_dot a character row 8
unfolding is_glyph_dot
ninth_dot a block character row v below is e = ap (λ n. is_set n 0) (e ∙ ap (λ n. if character / 32 * 32 == n then row % 2 else 0) is)
    ∙ lowest (character / 32 * 32 == (if is_line_graphics a then 0xC0 else 0x100)) row
    ∙ ap (λ b. b && is_set row 0) (drawing (is_line_graphics a) character below)
