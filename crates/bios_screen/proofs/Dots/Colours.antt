-- From the four bits of a dot to its colour, in text and in sixteen colours.
use Rattle.std.proofs.Common.{◌≡◌, ℕ, ◌+◌, ◌*◌, ◌<◌, refl, sym, ap, ◌∙◌, arith, Bool, true, false, [], ◌∷◌, length}
use Rattle.std.specs.Prelude.{◌==◌, ◌&&◌, if◌then◌else◌, slice_index, bit_and, drop, take}
use Rattle.std.specs.Str.{bytes_eq}
use Rattle.std.proofs.lemmas.Slice.Eq.{bytes_eq-Decides}
use Rattle.std.proofs.lemmas.Nat.{and_mask}
use Rattle.bios_screen.proofs.Prelude.{is_set, CrtcState, is_palette_shown, IsCard, CardState, ModeRow, BiosData, has_attribute_registers_of_mode, colour_by_palette}
use Rattle.vga_bits.specs.Bits.{field}
use Rattle.vga_bits.proofs.BitLemmas.{is_set_and}
use Rattle.vga_host.specs.Sequencer.{is_screen_off}
use Rattle.vga_host.specs.Graphics.{is_256_colours}
use Rattle.vga_attr.specs.Attr.{AttrState, IsAttr}
use Rattle.vga_attr.specs.Fields.{is_colour_select_wide}
use Rattle.vga_attr.specs.Colour.{palette_value_of_nibble, colour_index}
use Rattle.vga_dac.specs.Dac.{entry_of}
use Rattle.vga_dots.specs.Colour.{nibble, colour_number, dot_colour}
use Rattle.bios_screen.specs.Shown.{palette_of_card}
use Rattle.bios_screen.proofs.Base.Lists.{listed_at, spelled}
use Rattle.bios_screen.proofs.Base.Tests.{both_true, same}
use Rattle.bios_screen.proofs.Base.Setting.{Setting}
use Rattle.bios_screen.proofs.Modes.Frames.{HasShades}
use Rattle.bios_screen.proofs.Shows.Screens.{AllTests, setting_by}

-- ---- what the test implies for the attribute controller

pub record HasAttribute (row : ModeRow) (a : AttrState) : Type 0 where
  pub shown : is_palette_shown a ≡ true
  pub control : bit_and (slice_index a.registers 0x10) 0xF7 ≡ bit_and (slice_index row.attribute 0x10) 0xF7
  pub planes : slice_index a.registers 0x12 ≡ slice_index row.attribute 0x12
  pub panning : slice_index a.registers 0x13 ≡ slice_index row.attribute 0x13
  pub select : slice_index a.registers 0x14 ≡ slice_index row.attribute 0x14

pub attribute_is : (row : ModeRow) (a : AttrState) → IsAttr a → length row.attribute ≡ 21 → has_attribute_registers_of_mode row a ≡ true → HasAttribute row a
attribute_is row a z size h =
    let first = both_true (is_palette_shown a) _ h in
    let second = both_true (bit_and (slice_index a.registers 0x10) 0xF7 == bit_and (slice_index row.attribute 0x10) 0xF7)
    (bytes_eq (drop 0x12 a.registers) (drop 0x12 row.attribute)) first.1 in
    let last = sym (ap (drop 0x12) (spelled a.registers 21 z.size)) ∙ (bytes_eq-Decides (drop 0x12 a.registers) (drop 0x12 row.attribute)).0 second.1
    ∙ ap (drop 0x12) (spelled row.attribute 21 size) in
    record {
      shown = first.0;
      control = same second.0;
      planes = ap (λ l. slice_index l 0) last;
      panning = ap (λ l. slice_index l 1) last;
      select = ap (λ l. slice_index l 2) last;
    }

off_right : (b : Bool) → (b && true) ≡ b
off_right true = refl
off_right false = refl

-- a bit of mode control other than blinking
pub control_bit : (v n i : ℕ) → bit_and v 0xF7 ≡ n → is_set 0xF7 i ≡ true → is_set v i ≡ is_set n i
control_bit v n i e one = sym (off_right (is_set v i)) ∙ ap (λ b. is_set v i && b) (sym one) ∙ sym (is_set_and v 0xF7 i) ∙ ap (λ m. is_set m i) e

-- ---- the colour of four bits

-- the screen is on and not in 256 colours; all four bits of a dot and all six of a palette register
-- count
pub record Coloured (c : CardState) : Type 0 where
  pub on : is_screen_off c.host ≡ false
  pub many : is_256_colours c.host ≡ false
  pub wide : is_colour_select_wide c.attr ≡ false
  pub planes : slice_index c.attr.registers 0x12 ≡ 0x0F
  pub select : slice_index c.attr.registers 0x14 ≡ 0
  pub shown : is_palette_shown c.attr ≡ true

-- a shown screen has this, if the mode's row does
pub coloured : (row : ModeRow) (c : CardState) (d : BiosData) → HasShades row → length row.attribute ≡ 21 → AllTests row c d → IsCard c → Coloured c
coloured row c d h size t z =
    let set = setting_by row c t.memory in
    let a = attribute_is row c.attr z.attr size t.attribute in
    record {
      on = ap (λ (s : Setting). is_set (slice_index s.seq 1) 5) set ∙ h.on;
      many = ap (λ (s : Setting). is_set (slice_index s.gfx 6) 0 && is_set (slice_index s.gfx 5) 6) set ∙ h.many;
      wide = control_bit (slice_index c.attr.registers 0x10) (bit_and (slice_index row.attribute 0x10) 0xF7) 7 a.control refl ∙ h.wide;
      planes = a.planes ∙ h.planes;
      select = a.select ∙ h.select;
      shown = a.shown;
    }

low_fields : (p : ℕ) → p < 64 → field p 3 0 + 16 * field p 5 4 + 64 * 0 ≡ p
low_fields p l = omega arith

same_nibble : (n : ℕ) → n < 16 → bit_and n 15 ≡ n
same_nibble n l = let e = and_mask n 4 in omega (arith, e)

module _ (c : CardState) (t : Coloured c) (z : IsCard c) where
  value_is : (n : ℕ) → n < 16 → slice_index (palette_of_card c).values n ≡ slice_index c.attr.registers n
  value_is n l = ap (λ r. slice_index (take 16 r) n) (spelled c.attr.registers 21 z.attr.size) ∙ listed_at (slice_index c.attr.registers) 16 n 0 l

  index_is : (n : ℕ) → n < 16 → colour_index c.attr n ≡ slice_index (palette_of_card c).values n
  index_is n l =
      let p = slice_index c.attr.registers n in
      let e : palette_value_of_nibble c.attr n ≡ p = ap (λ (i : ℕ). slice_index c.attr.registers (bit_and n (field i 3 0))) t.planes
      ∙ ap (slice_index c.attr.registers) (same_nibble n l) in
      rw (e, t.wide, t.select) (low_fields p (z.attr.palette n l) ∙ sym (value_is n l))

  number_is : (s : CrtcState) → colour_number c.host s c.attr ≡ colour_index c.attr (nibble c.host s c.attr)
  unfolding colour_number
  number_is s = rw (t.shown, t.many) refl

  -- a dot of these four bits has their colour
  pub dot_shade : (s : CrtcState) (n : ℕ) → nibble c.host s c.attr ≡ n → n < 16 → dot_colour c.host s c.attr c.dac ≡ colour_by_palette (palette_of_card c) n
  unfolding dot_colour
  dot_shade s n e l =
      ap (λ w. if w then 0 ∷ 0 ∷ 0 ∷ [] else entry_of c.dac (bit_and (colour_number c.host s c.attr) c.dac.mask)) t.on
      ∙ ap (λ i. entry_of c.dac (bit_and i c.dac.mask)) (number_is s ∙ ap (colour_index c.attr) e ∙ index_is n l)
