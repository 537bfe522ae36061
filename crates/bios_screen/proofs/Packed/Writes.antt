-- Writing a run of characters in 256 colours, from one screen to the next.
use Rattle.std.proofs.Common.{◌≡◌, ℕ, ◌+◌, ◌-◌, ◌*◌, ◌/◌, ◌%◌, ◌<◌, ◌≤◌, refl, sym, ap, ◌∙◌, subst, arith, Some, Bool, true, false}
use Rattle.std.specs.Prelude.{if◌then◌else◌}
use Rattle.bios_screen.proofs.Prelude.{is_set, IsCard, card_meaning, CardState, bytes_320_by_200, BiosData, FontSet, ColumnBand, Colouring, page_0_address_of_mode, cells_per_page}
use Rattle.bios_screen.proofs.Prelude.{kind_of, Plan, run, put, each, Screen, pixel_of_256_colours, pixel_screen, shown}
use Rattle.bios_modes.specs.declared.kind.Kind.TheVariants.{Packed}
use Rattle.bios_services.specs.Bands.{byte_address_in_band}
use Rattle.bios_services.specs.Drawing.{glyph_dot_colour, put_glyph_line_in_256_colours, draw_character_in_256_colours_plan, character_plan_of_kind, character_plan, characters_plan}
use Rattle.bios_services.specs.Glyphs.{glyph_line}
use Rattle.bios_screen.specs.Step.{glyph_pixel, put_characters}
use Rattle.bios_screen.proofs.Base.Flat.{Edited, Turn, Leaves, set_cell}
use Rattle.bios_screen.proofs.Base.Edits.{one_edit, edits}
use Rattle.bios_screen.proofs.Dots.PackedDots.{IsPacked}
use Rattle.bios_screen.proofs.Planar.Settings.{without_host}
use Rattle.bios_screen.proofs.Base.CellPlaces.{strip_at, same_line, strip_within}
use Rattle.bios_screen.proofs.Packed.Screens as screens
use Rattle.bios_screen.proofs.Packed.Screens.{IsFlat, put_flat}
use Rattle.bios_screen.proofs.Pixels.Writes as writes
use Rattle.bios_screen.proofs.Pixels.Writes.{column_by, IsCanvas}

pub address_sum : (w h row r left i : ℕ) → 0xA0000 + 0 + 8 * w * (h * row + r) + 8 * left + i ≡ 0xA0000 + (8 * (w * (h * row + r) + left) + i)
address_sum w h row r left i = let a : 8 * w * (h * row + r) ≡ 8 * (w * (h * row + r)) = omega arith in omega arith

-- the plan that writes eight dots on each of n lines
abbrev glyph_plan : (ℕ → ℕ → ℕ) → (ℕ → ℕ) → ℕ → ℕ → Plan (Unit {0})
glyph_plan at g n colour = each (λ r. each (λ i. put (at r i) (glyph_dot_colour (g r) colour i)) 8 0) n 0

plan_is : (band : ColumnBand) (row : ℕ) (fonts : FontSet) (character colour : ℕ) → draw_character_in_256_colours_plan band row fonts character colour
    ≡ glyph_plan (byte_address_in_band band row) (glyph_line fonts band.lines character) band.lines colour
unfolding draw_character_in_256_colours_plan put_glyph_line_in_256_colours
plan_is band row fonts character colour = refl

-- the byte that is written, the colour or 0, is below 256
dot_small : (b : Bool) (colour : ℕ) → colour < 256 → (if b then colour else 0) < 256
dot_small true colour l = l
dot_small false colour l = omega arith

module _ (c : CardState) (d : BiosData) (t : IsPacked c d) (z : IsCard c) where
  abbrev s : Screen
  s = pixel_screen bytes_320_by_200 c d

  abbrev w : ℕ
  w = d.columns

  abbrev h : ℕ
  h = d.height

  abbrev rest : CardState
  rest = without_host c

  pub wide : 0 < w
  wide = let a = t.has.columns in omega arith

  high : 0 < h
  high = let a = t.has.height in omega arith

  -- the number of the pixel of dot i of line r of cell q
  abbrev place : ℕ → ℕ → ℕ → ℕ
  place q r i = 8 * strip_at w h q r + i

  pub address_is : (q r i : ℕ) → byte_address_in_band (column_by Packed d 0 (q % w)) (q / w) r i ≡ 0xA0000 + place q r i
  address_is q r i =
      let none : d.size * 0 ≡ 0 = omega arith in
      ap (λ n. n + d.size * 0 + 8 * w * (h * (q / w) + r) + 8 * (q % w) + i) (ap page_0_address_of_mode t.number)
      ∙ ap (λ n. 0xA0000 + n + 8 * w * (h * (q / w) + r) + 8 * (q % w) + i) none
      ∙ address_sum w h (q / w) r (q % w) i

  character_is : (fonts : FontSet) (q character : ℕ) (colouring : Colouring) → character_plan fonts d 0 q character colouring
      ≡ glyph_plan (λ r i. 0xA0000 + place q r i) (glyph_line fonts h character) h colouring.colour
  unfolding character_plan_of_kind
  character_is fonts q character colouring =
      let kind = ap kind_of t.number in
      let band = column_by Packed d 0 (q % w) in
      ap (λ k. character_plan_of_kind k fonts d 0 q character colouring) kind
      ∙ ap (λ k. draw_character_in_256_colours_plan (column_by k d 0 (q % w)) (q / w) fonts character colouring.colour) kind
      ∙ plan_is band (q / w) fonts character colouring.colour
      ∙ ap (λ a. glyph_plan a (glyph_line fonts h character) h colouring.colour) (λ j r i. address_is q r i j)

  -- the page has 8000 strips, and the strips of a cell are among these
  pub strip_small : (q r : ℕ) → q < cells_per_page d → r < h → strip_at w h q r < 8000
  strip_small q r lq lr =
      let l = strip_within w h (d.last_row + 1) q r wide lr lq in
      let same : 8 * w * (h * (d.last_row + 1)) ≡ 8 * (w * (h * (d.last_row + 1))) = omega arith in
      let all = screens.all_pixels c d t z in
      omega arith

  within : (q r i : ℕ) → q < cells_per_page d → r < h → i < 8 → place q r i < 65536
  within q r i lq lr li = let l = strip_small q r lq lr in omega arith

  abbrev Dots : Type 0
  Dots = Turn (λ _. Unit {0}) 0 8

  abbrev dot : ℕ → Dots
  dot k = record { turn = k % 8; from = omega arith; before = omega arith; place = tt }

  abbrev DrawnLines : Type 0
  DrawnLines = Turn (λ _. Dots) 0 h

  line_drawn : (q r dots colour : ℕ) (y : CardState) (f : ℕ → ℕ) → q < cells_per_page d → r < h → colour < 256 → IsFlat rest y f
      → Leaves CardState ℕ (IsFlat rest) (run card_meaning (each (λ i. put (0xA0000 + place q r i) (glyph_dot_colour dots colour i)) 8 0) y).0
      (Edited ℕ Dots (λ x. place q r x.turn) (λ x v. glyph_dot_colour dots colour x.turn) f)
  line_drawn q r dots colour y f lq lr lc u =
      edits CardState ℕ card_meaning (λ i. put (0xA0000 + place q r i) (glyph_dot_colour dots colour i)) (λ _. IsFlat rest) 0 8 (λ _. Unit {0}) (λ i _. place q r i)
      (λ i _ v. glyph_dot_colour dots colour i)
      (λ i j _ _ lb lo hi. omega arith)
      (λ i v g lb l k. record {
        cells = set_cell g (place q r i) (glyph_dot_colour dots colour i);
        shown = put_flat rest (place q r i) (glyph_dot_colour dots colour i) v g (within q r i lq lr l) (dot_small (is_set dots (7 - i)) colour lc) k;
        fact = one_edit (place q r i) (glyph_dot_colour dots colour i) g;
      })
      8 0 y f (omega arith) (omega arith) u

  glyph_drawn : (q colour : ℕ) (g : ℕ → ℕ) (y : CardState) (f : ℕ → ℕ) → q < cells_per_page d → colour < 256 → IsFlat rest y f
      → Leaves CardState ℕ (IsFlat rest) (run card_meaning (glyph_plan (λ r i. 0xA0000 + place q r i) g h colour) y).0
      (Edited ℕ DrawnLines (λ x. place q x.turn x.place.turn) (λ x v. glyph_dot_colour (g x.turn) colour x.place.turn) f)
  glyph_drawn q colour g y f lq lc u =
      edits CardState ℕ card_meaning (λ r. each (λ i. put (0xA0000 + place q r i) (glyph_dot_colour (g r) colour i)) 8 0) (λ _. IsFlat rest) 0 h (λ _. Dots) (λ r x.
      place q r x.turn) (λ r x v. glyph_dot_colour (g r) colour x.turn)
      (λ r v x k lb lo hi same.
      let lx = x.before in
      let lk = k.before in
      let one = same_line w h q r v wide (omega arith) hi (omega arith) in
      absurd (omega arith))
      (λ r v f1 lb l k. line_drawn q r (g r) colour v f1 lq l lc k)
      h 0 y f (omega arith) (omega arith) u

  -- in 256 colours a dot gives the colour, and no dot gives 0
  dot_is : (colour : ℕ) (is_dot : Bool) (x : ℕ) → (if is_dot then colour else 0) ≡ glyph_pixel d.mode colour is_dot x
  dot_is colour is_dot x = sym (ap (λ i. glyph_pixel i colour is_dot x) t.number)

  -- each strip is eight pixels, and no two strips share one
  canvas : IsCanvas bytes_320_by_200 c d wide high ℕ Dots 0 (λ b x. 8 * b + x.turn) dot
      (λ x _. x) (pixel_of_256_colours c.host.memory) (IsFlat rest)
  canvas = record {
    apart = λ a b x y same. let lx = x.before in let ly = y.before in omega arith;
    pixel = λ k lk. let whole : k ≡ 8 * (k / 8) + k % 8 = omega arith in screens.pixel_is c d t z k lk ∙ ap (pixel_of_256_colours c.host.memory) whole;
    begins = screens.begins c d t z;
    redrawn = λ y f change u inside _. screens.page_redrawn c d t z y f change u (λ k lk. let whole : k ≡ 8 * (k / 8) + k % 8 = omega arith in
        ap f whole ∙ inside k lk);
  }

  -- page 0 is the only page
  pub characters_shown : (fonts : FontSet) (p q n character : ℕ) (colouring : Colouring) → p < bytes_320_by_200.pages → q + n ≤ cells_per_page d →
      colouring.colour < 256 → shown (run card_meaning (characters_plan fonts d p q character colouring n) c).0 d
      ≡ Some (put_characters fonts s p q n character colouring)
  characters_shown fonts p q n character colouring lp lq lc =
      let first : 0 ≡ p = omega arith in
      let g = glyph_line fonts h character in
      subst (λ i. shown (run card_meaning (characters_plan fonts d i q character colouring n) c).0 d ≡ Some (put_characters fonts s i q n character colouring))
      first
      (writes.characters_shown bytes_320_by_200 c d wide high ℕ Dots 0 (λ b x. 8 * b + x.turn) dot (λ x _. x) (pixel_of_256_colours c.host.memory)
      (IsFlat rest) canvas fonts character colouring (λ r x _. glyph_dot_colour (g r) colouring.colour x.turn)
      (λ k r x. dot_is colouring.colour (is_set (g r) (7 - k % 8)) x)
      (λ i y f li u. subst (λ plan. Leaves CardState ℕ (IsFlat rest) (run card_meaning plan y).0
      (Edited ℕ DrawnLines (λ x. place i x.turn x.place.turn) (λ x v. glyph_dot_colour (g x.turn) colouring.colour x.place.turn) f))
      (sym (character_is fonts i character colouring)) (glyph_drawn i colouring.colour g y f li lc u))
      q n lq)
