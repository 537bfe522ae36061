-- Writing a run of characters in sixteen colours, from one screen to the next.
use Rattle.std.proofs.Common.{◌≡◌, ℕ, ◌+◌, ◌-◌, ◌*◌, ◌/◌, ◌%◌, ◌<◌, ◌≤◌, ⊎_elim, refl, sym, ap, ◌∙◌, subst, arith, Some, Bool}
use Rattle.std.specs.Prelude.{slice_index, ◌==◌, ◌&&◌, nat_le, nat_lt, min, not, if◌then◌else◌}
use Rattle.bios_screen.proofs.Prelude.{is_set, Four, bytes_at, IsCard, card_meaning, CardState, ModeRow, BiosData, FontSet, ColumnBand, Colouring, Planar, cells_per_page}
use Rattle.bios_screen.proofs.Prelude.{run, Screen, pixel_screen, shown}
use Rattle.bios_services.specs.Bands.{byte_address_in_band, fill_line, fill_row}
use Rattle.bios_services.specs.Drawing.{put_glyph, put_glyph_over, draw_over_zeros_plan, draw_by_xor_plan, draw_character_in_16_colours_plan, character_plan_of_kind, character_plan, characters_plan}
use Rattle.bios_services.specs.Glyphs.{glyph_line}
use Rattle.bios_screen.specs.Step.{glyph_pixel, put_characters}
use Rattle.bios_screen.proofs.Base.Flat.{Edited, Turn, Leaves}
use Rattle.bios_screen.proofs.Dots.PlanarDots.{IsPlanar}
use Rattle.bios_screen.proofs.Planar.Settings.{at_rest, without_host}
use Rattle.bios_screen.proofs.Planar.Bits.{nibble_of}
use Rattle.bios_screen.proofs.Planar.Characters.{Drawn, lined, dotted_by, glyph_by, glyph_drawn, pixel_lined}
use Rattle.bios_screen.proofs.Base.CellPlaces.{strip_at, same_line, strip_within}
use Rattle.bios_screen.proofs.Planar.Screens as screens
use Rattle.bios_screen.proofs.Pixels.Writes as writes
use Rattle.bios_screen.proofs.Pixels.Writes.{column_by, IsCanvas}

-- the address of a line, as the plan adds it up
pub address_sum : (start w h row r left : ℕ) → 0xA0000 + start + 1 * w * (h * row + r) + 1 * left + 0 ≡ 0xA0000 + (start + (w * (h * row + r) + left))
address_sum start w h row r left =
    let a : 1 * w ≡ w = omega arith in
    ap (λ n. 0xA0000 + start + n * (h * row + r) + 1 * left + 0) a ∙ sum (w * (h * row + r))
  where
    sum : (n : ℕ) → 0xA0000 + start + n + 1 * left + 0 ≡ 0xA0000 + (start + (n + left))
    sum n = omega arith

-- the plan of a band that is one byte wide
plan_is : (band : ColumnBand) (row : ℕ) (fonts : FontSet) (character colour : ℕ) → draw_character_in_16_colours_plan (record band { width = 1 }) row fonts character colour
    ≡ glyph_by (is_set colour 7) (λ r. byte_address_in_band band row r 0) (glyph_line fonts band.lines character) band.lines (colour % 16)
unfolding draw_character_in_16_colours_plan draw_over_zeros_plan draw_by_xor_plan put_glyph put_glyph_over fill_row fill_line
plan_is band row fonts character colour = refl

module _ (row : ModeRow) (c : CardState) (d : BiosData) (t : IsPlanar row c d) (z : IsCard c) where
  abbrev s : Screen
  s = pixel_screen row c d

  abbrev w : ℕ
  w = d.columns

  abbrev h : ℕ
  h = d.height

  abbrev misc : ℕ
  misc = row.misc

  abbrev clocking : ℕ
  clocking = slice_index row.sequencer 1

  pub wide : 0 < w
  wide = subst (λ n. 0 < n) (sym t.has.columns) t.room.some_columns

  pub high : 0 < h
  high = subst (λ n. 0 < n) (sym t.has.height) t.room.some_lines

  -- the offset of line r of cell q of page p
  abbrev place : ℕ → ℕ → ℕ → ℕ
  place p q r = d.size * p + strip_at w h q r

  pub address_is : (p q r : ℕ) → byte_address_in_band (column_by Planar d p (q % w)) (q / w) r 0 ≡ 0xA0000 + place p q r
  address_is p q r = ap (λ n. n + d.size * p + 1 * w * (h * (q / w) + r) + 1 * (q % w) + 0) t.base
      ∙ address_sum (d.size * p) w h (q / w) r (q % w)

  character_is : (fonts : FontSet) (p q character : ℕ) (colouring : Colouring) → character_plan fonts d p q character colouring
      ≡ glyph_by (is_set colouring.colour 7) (λ r. 0xA0000 + place p q r) (glyph_line fonts h character) h (colouring.colour % 16)
  unfolding character_plan_of_kind
  character_is fonts p q character colouring =
      let kind = t.kind in
      let left = q % w in
      let row = q / w in
      let band = column_by Planar d p left in
      let lines = glyph_line fonts h character in
      ap (λ k. character_plan_of_kind k fonts d p q character colouring) kind
      ∙ ap (λ k. draw_character_in_16_colours_plan (column_by k d p left) row fonts character colouring.colour) kind
      ∙ plan_is band row fonts character colouring.colour
      ∙ ap (λ a. glyph_by (is_set colouring.colour 7) a lines h (colouring.colour % 16)) (λ j r. address_is p q r j)

  -- a line's byte lies within its page, and in memory
  pub within : (p q r : ℕ) → p < row.pages → q < cells_per_page d → r < h → (strip_at w h q r < d.size) × (place p q r < 65536)
  within p q r lp lq lr =
      let b = strip_at w h q r in
      let l = strip_within w h (d.last_row + 1) q r wide lr lq in
      let k : 8 * b / 8 ≡ b = omega arith in
      let small = screens.strip_small row c d t z b l in
      (small.1, subst (λ n. d.size * p + n < 65536) k (screens.in_memory row c d t z p (8 * b) lp small.0))

  -- each strip is one offset, and its pixels are the bits of its byte in each plane
  canvas : (p : ℕ) → p < row.pages → IsCanvas row c d wide high (Four ℕ) (Unit {0}) p (λ b _. d.size * p + b) (λ _. tt)
      (λ x k. nibble_of x (k % 8)) (bytes_at c.host.memory) (Drawn (without_host c) misc clocking at_rest)
  canvas p lp = record {
    apart = λ a b _ _ y. omega arith;
    pixel = λ k lk. screens.pixel_is row c d t z p k lp lk;
    begins = record { latches = c.host.latches; is = screens.begins row c d t z };
    redrawn = λ y f change u inside outside. screens.page_redrawn row c d t z p y f u.latches change lp u.is inside (λ o out. outside o (λ b _ l same.
        let small = (screens.strip_small row c d t z b l).1 in
        ⊎_elim (λ (a : o < d.size * p). absurd (omega arith)) (λ (a : d.size * p + d.size ≤ o). absurd (omega arith)) out));
  }

  -- what a dot does to a pixel in a mode of sixteen colours
  dot_is : (colour : ℕ) (is_dot : Bool) (x : ℕ) → dotted_by (is_set colour 7) (colour % 16) is_dot x ≡ glyph_pixel d.mode colour is_dot x
  dot_is colour is_dot x = sym (ap (λ b. if is_dot then (if b then colour else if is_set colour 7 then Rattle.std.specs.Prelude.bit_xor x (colour % 16)
      else colour % 16) else if not b && is_set colour 7 then x else 0) t.packed)

  pub characters_shown : (fonts : FontSet) (p q n character : ℕ) (colouring : Colouring) → p < row.pages → q + n ≤ cells_per_page d →
      shown (run card_meaning (characters_plan fonts d p q character colouring n) c).0 d ≡ Some (put_characters fonts s p q n character colouring)
  characters_shown fonts p q n character colouring lp lq =
      let R = Drawn (without_host c) misc clocking at_rest in
      let b = is_set colouring.colour 7 in
      let mask = colouring.colour % 16 in
      let g = glyph_line fonts h character in
      writes.characters_shown row c d wide high (Four ℕ) (Unit {0}) p (λ b _. d.size * p + b) (λ _. tt) (λ x k. nibble_of x (k % 8))
      (bytes_at c.host.memory) R (canvas p lp) fonts character colouring (λ r _ x. lined b mask (g r) x)
      (λ k r x. pixel_lined b mask (g r) (k % 8) x (omega arith) (omega arith)
      ∙ dot_is colouring.colour (is_set (g r) (7 - k % 8)) (nibble_of x (k % 8)))
      (λ i y f li u. subst (λ plan. Leaves CardState (Four ℕ) R (run card_meaning plan y).0
      (Edited (Four ℕ) (Turn (λ _. Unit {0}) 0 h) (λ r. place p i r.turn) (λ r x. lined b mask (g r.turn) x) f))
      (sym (character_is fonts p i character colouring))
      (glyph_drawn (without_host c) misc clocking t.enabled (place p i) h (λ r lr. (within p i r lp li lr).1)
      (λ j k lo hi same. let one = same_line w h i j k wide (omega arith) hi (omega arith) in absurd (omega arith))
      b mask g y f (omega arith) u))
      q n lq
