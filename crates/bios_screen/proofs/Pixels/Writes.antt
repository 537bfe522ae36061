-- Writing a run of characters on a page of pixels, from one screen to the next, however pixels lie
-- in memory.
use Rattle.std.proofs.Common.{◌≡◌, ◌≢◌, ℕ, ◌+◌, ◌-◌, ◌*◌, ◌/◌, ◌%◌, ◌<◌, ◌≤◌, sym, ap, ◌∙◌, arith, Some}
use Rattle.std.proofs.Math.Nat.{mod-lt}
use Rattle.bios_screen.proofs.Prelude.{is_set, card_meaning, CardState, ModeRow, BiosData, FontSet, ColumnBand, Colouring, cells_per_page, run, Screen, page_pixels}
use Rattle.bios_screen.proofs.Prelude.{pixel_screen, shown, pixel_of, with_pixels}
use Rattle.bios_modes.specs.declared.kind.Kind.{Kind}
use Rattle.bios_services.specs.Drawing.{character_plan, characters_plan}
use Rattle.bios_services.specs.Glyphs.{glyph_line}
use Rattle.bios_screen.specs.Step.{character_cell_of_pixel, line_within_cell_of_pixel, glyph_pixel, draw_characters}
use Rattle.bios_screen.proofs.Base.Flat.{Edited, Turn, Leaves}
use Rattle.bios_screen.proofs.Base.Edits.{edits}
use Rattle.bios_services.specs.Bands.{band_of_kind}
use Rattle.bios_screen.proofs.Base.Tests.{of_run}
use Rattle.bios_screen.proofs.Base.CellPlaces.{cell_of, line_of, strip_at, strip_of_cell, cell_of_strip, strip_within, pixel_cell_is, pixel_line_is}

-- a band of one column of a page, in this kind of memory
abbrev pub column_by : Kind → BiosData → ℕ → ℕ → ColumnBand
column_by k d page left = band_of_kind k d page left 1

-- memory has each strip of eight pixels at some positions; pixel k is a shade of what is at the
-- position that `dot` selects
module _ (row : ModeRow) (c : CardState) (d : BiosData) (wide : 0 < d.columns) (high : 0 < d.height) (X D : Type 0) (p : ℕ) (at : ℕ → D → ℕ)
    (dot : ℕ → D) (shade : X → ℕ → ℕ) (old : ℕ → X) (R : CardState → (ℕ → X) → Type 0) where
  abbrev s : Screen
  s = pixel_screen row c d

  abbrev w : ℕ
  w = d.columns

  abbrev h : ℕ
  h = d.height

  abbrev strips : ℕ
  strips = w * (h * (d.last_row + 1))

  -- the positions of a character, and those of a run of characters
  abbrev pub DrawnLines : Type 0
  DrawnLines = Turn (λ _. D) 0 h

  abbrev Cells : ℕ → Type 0
  Cells n = Turn (λ _. DrawnLines) 0 n

  -- two strips share no position, a pixel is a shade, and a page with new pixels gives the screen
  -- with them
  pub record IsCanvas : Type 0 where
    pub apart : (a b : ℕ) (x y : D) → at a x ≡ at b y → a ≡ b
    pub pixel : (k : ℕ) → k < page_pixels d → pixel_of s p k ≡ shade (old (at (k / 8) (dot k))) k
    pub begins : R c old
    pub redrawn : (y : CardState) (f : ℕ → X) (change : (ℕ → ℕ) → ℕ → ℕ) → R y f
        → ((k : ℕ) → k < page_pixels d → shade (f (at (k / 8) (dot k))) k ≡ change (pixel_of s p) k)
        → ((o : ℕ) → ((b : ℕ) (x : D) → b < strips → o ≢ at b x) → f o ≡ old o)
        → shown y d ≡ Some (with_pixels s p change)

  -- a character is drawn at a cell: line r of its glyph applies F r to what is there
  module _ (is : IsCanvas) (fonts : FontSet) (character : ℕ) (colouring : Colouring) (F : ℕ → D → X → X)
      (shaded : (k r : ℕ) (x : X) → shade (F r (dot k) x) k
      ≡ glyph_pixel d.mode colouring.colour (is_set (glyph_line fonts h character r) (7 - k % 8)) (shade x k))
      (drawn : (q : ℕ) (y : CardState) (f : ℕ → X) → q < cells_per_page d → R y f
      → Leaves CardState X R (run card_meaning (character_plan fonts d p q character colouring) y).0
      (Edited X DrawnLines (λ x. at (strip_at w h q x.turn) x.place) (λ x. F x.turn x.place) f)) where
    abbrev AreDrawn : ℕ → ℕ → (ℕ → X) → Type 0
    AreDrawn q n f = Edited X (Cells n) (λ x. at (strip_at w h (q + x.turn) x.place.turn) x.place.place) (λ x. F x.place.turn x.place.place) old f

    all_drawn : (q n : ℕ) → q + n ≤ cells_per_page d
        → Leaves CardState X R (run card_meaning (characters_plan fonts d p q character colouring n) c).0 (AreDrawn q n)
    unfolding characters_plan
    all_drawn q n l =
        edits CardState X card_meaning (λ i. character_plan fonts d p (q + i) character colouring) (λ _. R) 0 n (λ _. DrawnLines)
        (λ i x. at (strip_at w h (q + i) x.turn) x.place) (λ i x. F x.turn x.place)
        (λ i j x y lb lo hi same.
        let a = cell_of_strip w h (q + i) x.turn wide x.before in
        let b = cell_of_strip w h (q + j) y.turn wide y.before in
        let one = ap (cell_of w h) (is.apart (strip_at w h (q + i) x.turn) (strip_at w h (q + j) y.turn) x.place y.place same) in
        absurd (omega arith))
        (λ i y f lb lo u. drawn (q + i) y f (omega arith) u)
        n 0 c old (omega arith) (omega arith) is.begins

    pub characters_shown : (q n : ℕ) → q + n ≤ cells_per_page d → shown (run card_meaning (characters_plan fonts d p q character colouring n) c).0 d
        ≡ Some (with_pixels s p (draw_characters fonts s q n character colouring.colour))
    characters_shown q n l =
        let after = all_drawn q n l in
        let f = after.cells in
        let made : ℕ → ℕ → ℕ → ℕ = λ k r x. glyph_pixel d.mode colouring.colour (is_set (glyph_line fonts h character r) (7 - k % 8)) x in
        is.redrawn (run card_meaning (characters_plan fonts d p q character colouring n) c).0 f (draw_characters fonts s q n character colouring.colour)
        after.shown
        (λ k lk.
        let b = k / 8 in
        let i = dot k in
        let cell = cell_of w h b in
        let line = line_of w h b in
        let was = is.pixel k lk in
        let cell_is : character_cell_of_pixel s k ≡ cell = pixel_cell_is w h k wide in
        let line_is : line_within_cell_of_pixel s k ≡ line = pixel_line_is w h k wide in
        of_run q n (character_cell_of_pixel s k) (shade (f (at b i)) k) (made k (line_within_cell_of_pixel s k) (pixel_of s p k)) (pixel_of s p k)
        (λ lo hi.
        let u = cell - q in
        let x : Cells n = record {
          turn = u;
          from = omega arith;
          before = omega arith;
          place = record { turn = line; from = omega arith; before = mod-lt (b / w) high; place = i };
        } in
        let there : q + u ≡ cell = omega arith in
        let same : at (strip_at w h (q + u) line) i ≡ at b i = ap (λ v. at (strip_at w h v line) i) there
        ∙ ap (λ v. at v i) (strip_of_cell w h b wide high) in
        ap (λ v. shade (f v) k) (sym same) ∙ ap (λ v. shade v k) (after.fact.inside x) ∙ ap (λ v. shade (F line i (old v)) k) same
        ∙ shaded k line (old (at b i)) ∙ ap (made k line) (sym was) ∙ ap (λ v. made k v (pixel_of s p k)) (sym line_is))
        (λ out. ap (λ v. shade v k) (after.fact.outside (at b i) (λ x y.
        let one = ap (cell_of w h) (is.apart b (strip_at w h (q + x.turn) x.place.turn) i x.place.place y) in
        out x.turn x.before (cell_is ∙ one ∙ cell_of_strip w h (q + x.turn) x.place.turn wide x.place.before))) ∙ sym was))
        (λ o out. after.fact.outside o (λ x. let lx = x.before in out (strip_at w h (q + x.turn) x.place.turn) x.place.place
        (strip_within w h (d.last_row + 1) (q + x.turn) x.place.turn wide x.place.before (omega arith))))
