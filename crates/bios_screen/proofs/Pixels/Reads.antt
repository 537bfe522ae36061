-- Reading the character at a cell of pixels: its lines, one after another, and the first glyph that
-- matches.
use Rattle.std.proofs.Common.{◌≡◌, ℕ, zero, suc, ◌+◌, ◌%◌, ◌/◌, ◌<◌, ◌≤◌, refl, sym, ap, ◌∙◌, subst, arith, List, ◌∷◌, Some, false}
use Rattle.std.specs.Prelude.{◌==◌, if◌then◌else◌}
use Rattle.vga_bits.specs.Bits.{byte_of_bits}
use Rattle.bios_screen.proofs.Prelude.{card_meaning, CardState, ModeRow, BiosData, FontSet, is_text, kind_of, Regs, Plan, run, Done, ◌>>=◌, ◌>>◌, list_by_function}
use Rattle.bios_screen.proofs.Prelude.{Screen, pixel_screen, shown}
use Rattle.bios_modes.specs.declared.kind.Kind.{Kind}
use Rattle.bios_services.specs.Bands.{byte_address_in_band, set_read_write_mode_if_16_colours_plan}
use Rattle.bios_services.specs.Cells.{cell_address, read_cell_plan}
use Rattle.bios_services.specs.CharacterReading.{read_nonzero_pixels_plan, read_lines_plan, read_character_plan}
use Rattle.bios_services.specs.Cursor.{cursor_cell_number}
use Rattle.bios_services.specs.Drawing.{cell_band, cell_row}
use Rattle.bios_services.specs.Glyphs.{first_character_with_lines}
use Rattle.bios_services.specs.Kinds.{row_lines}
use Rattle.bios_services.specs.Plan.{gather}
use Rattle.bios_services.specs.Registers.{with_low}
use Rattle.bios_services.specs.Service.{read_cell_service}
use Rattle.bios_screen.specs.Step.{pixel_line_as_byte}
use Rattle.bios_screen.proofs.Base.Plans.{run_bind}
use Rattle.bios_screen.proofs.Pixels.Writes.{column_by}
use Rattle.bios_screen.proofs.Text.Writes.{IsCellRead}

-- a pixel as a bit: 1 if it is not 0
abbrev pub as_dot : ℕ → ℕ
as_dot pixel = if pixel == 0 then 0 else 1

-- bytes with the same bits are the same
pub byte_same : (f g : ℕ → ℕ) → ((i : ℕ) → i < 8 → f i ≡ g i) → byte_of_bits f ≡ byte_of_bits g
unfolding byte_of_bits
byte_same f g h =
    let h0 = h 0 (omega arith) in let h1 = h 1 (omega arith) in let h2 = h 2 (omega arith) in let h3 = h 3 (omega arith) in
    let h4 = h 4 (omega arith) in let h5 = h 5 (omega arith) in let h6 = h 6 (omega arith) in let h7 = h 7 (omega arith) in
    omega arith

-- a plan answers v, and leaves a state for which R holds
pub record IsSeen (R : CardState → Type 0) (plan : Plan ℕ) (v : ℕ) (c : CardState) : Type 0 where
  pub still : R (run card_meaning plan c).0
  pub value : (run card_meaning plan c).1 ≡ v

record AreSeen (R : CardState → Type 0) (plan : Plan (List ℕ)) (l : List ℕ) (c : CardState) : Type 0 where
  still : R (run card_meaning plan c).0
  value : (run card_meaning plan c).1 ≡ l

-- the plan, by the addresses of the lines
abbrev reading : Kind → (ℕ → ℕ) → ℕ → FontSet → Plan ℕ
reading k at n fonts = do
  set_read_write_mode_if_16_colours_plan k 0x08
  lines ← gather (λ r. read_nonzero_pixels_plan k (at r)) n 0
  set_read_write_mode_if_16_colours_plan k 0x00
  Done (first_character_with_lines fonts n lines 256)

module _ (row : ModeRow) (c : CardState) (d : BiosData) (fonts : FontSet) (p q : ℕ) (k : Kind) (at : ℕ → ℕ) (R : CardState → Type 0) where
  abbrev s : Screen
  s = pixel_screen row c d

  abbrev h : ℕ
  h = d.height

  plan_is : kind_of d.mode ≡ k → row_lines k h ≡ h → ((r : ℕ) → byte_address_in_band (column_by k d p (q % d.columns)) (q / d.columns) r 0 ≡ at r) →
      read_character_plan (cell_band d p q) (cell_row d q) fonts ≡ reading k at h fonts
  unfolding read_character_plan read_lines_plan
  plan_is kind lines there =
      ap (λ i. read_character_plan (column_by i d p (q % d.columns)) (q / d.columns) fonts) kind
      ∙ ap (λ n. reading k (λ r. byte_address_in_band (column_by k d p (q % d.columns)) (q / d.columns) r 0) n fonts) lines
      ∙ ap (λ a. reading k a h fonts) (λ j r. there r j)

  module _ (line : (r : ℕ) (y : CardState) → r < h → R y → IsSeen R (read_nonzero_pixels_plan k (at r)) (pixel_line_as_byte s p q r) y) where
    lines_seen : (n i : ℕ) (y : CardState) → i + n ≤ h → R y → AreSeen R (gather (λ r. read_nonzero_pixels_plan k (at r)) n i) (list_by_function (pixel_line_as_byte s p q) i n) y
    lines_seen zero i y l t = record { still = t; value = refl }
    lines_seen (suc n) i y l t =
        let first = read_nonzero_pixels_plan k (at i) in
        let more : Plan (List ℕ) = gather (λ r. read_nonzero_pixels_plan k (at r)) n (i + 1) in
        let join : ℕ → List ℕ → Plan (List ℕ) = λ x xs. Done (x ∷ xs) in
        let seen = line i y (omega arith) t in
        let y1 = (run card_meaning first y).0 in
        let x = (run card_meaning first y).1 in
        let rest = lines_seen n (i + 1) y1 (omega arith) seen.still in
        let runs = run_bind card_meaning first (λ v. more >>= join v) y ∙ run_bind card_meaning more (join x) y1 in
        record {
          still = subst (λ v. R v.0) (sym runs) rest.still;
          value = ap (λ v. v.1) runs ∙ ap (λ v. v ∷ (run card_meaning more y1).1) seen.value ∙ ap (λ l. pixel_line_as_byte s p q i ∷ l) rest.value;
        }

    -- reading begins and ends in a state that shows the screen
    pub character_seen : kind_of d.mode ≡ k → row_lines k h ≡ h → ((r : ℕ) → byte_address_in_band (column_by k d p (q % d.columns)) (q / d.columns) r 0 ≡ at r)
        → R (run card_meaning (set_read_write_mode_if_16_colours_plan k 0x08) c).0
        → ((y : CardState) → R y → shown (run card_meaning (set_read_write_mode_if_16_colours_plan k 0x00) y).0 d ≡ Some s)
        → IsSeen (λ y. shown y d ≡ Some s) (read_character_plan (cell_band d p q) (cell_row d q) fonts)
        (first_character_with_lines fonts h (list_by_function (pixel_line_as_byte s p q) 0 h) 256) c
    character_seen kind lines there begins ends =
        let begin : Plan (Unit {0}) = set_read_write_mode_if_16_colours_plan k 0x08 in
        let end : Plan (Unit {0}) = set_read_write_mode_if_16_colours_plan k 0x00 in
        let all : Plan (List ℕ) = gather (λ r. read_nonzero_pixels_plan k (at r)) h 0 in
        let found : List ℕ → Plan ℕ = λ l. Done (first_character_with_lines fonts h l 256) in
        let y = (run card_meaning begin c).0 in
        let seen = lines_seen h 0 y (omega arith) begins in
        let runs = ap (λ plan. run card_meaning plan c) (plan_is kind lines there)
        ∙ run_bind card_meaning begin (λ _. all >>= λ l. end >> found l) c
        ∙ run_bind card_meaning all (λ l. end >> found l) y
        ∙ run_bind card_meaning end (λ _. found (run card_meaning all y).1) (run card_meaning all y).0 in
        record {
          still = ap (λ v. shown v.0 d) runs ∙ ends (run card_meaning all y).0 seen.still;
          value = ap (λ v. v.1) runs ∙ ap (λ l. first_character_with_lines fonts h l 256) seen.value;
        }

-- function 08, given that the character is read
pub cell_read : (row : ModeRow) (c : CardState) (d : BiosData) (fonts : FontSet) (r : Regs) (p : ℕ) → is_text d.mode ≡ false
    → (let s = pixel_screen row c d in let q = cursor_cell_number d p in
    IsSeen (λ y. shown y d ≡ Some s) (read_character_plan (cell_band d p q) (cell_row d q) fonts)
    (first_character_with_lines fonts d.height (list_by_function (pixel_line_as_byte s p q) 0 d.height) 256) c) → IsCellRead fonts r c d p (pixel_screen row c d)
unfolding read_cell_service
cell_read row c d fonts r p text seen =
    let q = cursor_cell_number d p in
    let answered : ℕ → Regs = λ character. record r { ax = with_low r.ax character } in
    let dots = read_character_plan (cell_band d p q) (cell_row d q) fonts in
    let cell : Plan Regs = read_cell_plan (cell_address d p q) >>= λ ax. Done (record r { ax = ax }) in
    let runs = ap (λ b. let x : Plan Regs = (if b then cell else (dots >>= λ v. Done (answered v))) in run card_meaning x c) text
    ∙ run_bind card_meaning dots (λ v. Done (answered v)) c in
    record { answer = ap (λ x. x.1) runs ∙ ap answered seen.value; shows = ap (λ x. shown x.0 d) runs ∙ seen.still }
