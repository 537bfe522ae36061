-- Bounds on the numbers in valid BIOS data.
use Rattle.std.proofs.Common.{◌≡◌, ◌≢◌, ℕ, ◌*◌, ◌<◌, ◌≤◌, ap, sym, refl, subst, mul-zero, ◌∙◌, arith, IfSome, Bool, true, false, if◌then◌else◌, Option, Some}
use Rattle.std.proofs.Common.{None, inl, inr, ◌==◌}
use Rattle.bios_modes.specs.declared.modes.ModeRow.{ModeRow}
use Rattle.bios_modes.specs.declared.heights.TextRow.{TextRow}
use Rattle.bios_modes.specs.Heights.{fifty_rows_underlined_at, twenty_eight_rows_underlined_at, twenty_five_rows_underlined_at, colour_text_row, monochrome_text_row, with_text_row, with_height_row, value_of_row, row_at_height}
use Rattle.bios_modes.specs.Heights.{mode_row_at_height}
use Rattle.bios_modes.specs.Modes.{mode_row, colour_text, monochrome_text}
use Rattle.bios_modes.specs.Bda.{BiosData}
use Rattle.bios_modes.proofs.RowLemmas.{each_mode, own_row}
use Rattle.bios_modes.specs.Begin.{data_of_mode}
use Rattle.bios_modes.specs.Valid.{IsDataOfRow, FitsModeRow, IsValid}
use Rattle.std.specs.Prelude.{◌+◌, ◌&&◌, nat_le, nat_lt}
use Rattle.std.proofs.lemmas.Bool.Decides.{nat_tests}
use Rattle.vga_bits.specs.declared.refusal.Refusal.TheVariants.{WrongKind, CountPast}
use Rattle.bios_services.specs.declared.glyph_load.GlyphLoad.{GlyphLoad}
use Rattle.bios_modes.specs.Kinds.{is_text, is_text_kind, kind_of_row}
use Rattle.bios_services.specs.Cells.{page_0_address_of_mode_row, page_0_address_of_mode}
use Rattle.bios_services.specs.Reasons.{refuse_unless}
use Rattle.bios_services.specs.GlyphLoads.{AreGlyphsThere, glyphs_block_len, glyphs_len, load_refusal_besides_block, load_refusal}
use Rattle.bios_services.specs.Bounds.{IsModeSet, StaysInMode, pages_of_row, ports_bound}
use Rattle.bios_services.proofs.ReasonLemmas.{neither, holds, wrong_or}

-- what holds for both branches holds for a choice
on_either : {A : Type 0} (P : A → Type 0) (b : Bool) {x y : A} → P x → P y → P (if b then x else y)
on_either P true px py = px
on_either P false px py = py

-- the row of a mode with characters of a height
abbrev sized : Option ModeRow → ℕ → Option ModeRow
sized x height = value_of_row x (λ row. row_at_height row height)

-- the pages of each mode begin at one of three addresses
pub base_small : (mode : ℕ) → page_0_address_of_mode mode ≤ 0xB8000
base_small = each_mode (λ _ x. page_0_address_of_mode_row x ≤ 0xB8000) (omega arith) (omega arith) (omega arith) (omega arith) (omega arith) (omega arith) (λ _. omega arith)

-- what holds of each row of mode 3, and of none, holds of that of any height
on_colour : (P : Option ModeRow → Type 0) (height : ℕ) → P (Some (with_text_row colour_text (fifty_rows_underlined_at 0x1F))) →
    P (Some (with_text_row colour_text (twenty_eight_rows_underlined_at 0x1F))) → P (Some (with_text_row colour_text (twenty_five_rows_underlined_at 0x1F))) → P None →
    P (with_height_row colour_text (colour_text_row height))
on_colour P height p8 p14 p16 none =
    let Q : Option TextRow → Type 0 = λ text. P (with_height_row colour_text text) in
    on_either Q (height == 8) p8 (on_either Q (height == 14) p14 (on_either Q (height == 16) p16 none))

-- and so it does of mode 7
on_monochrome : (P : Option ModeRow → Type 0) (height : ℕ) → P (Some (with_text_row monochrome_text (fifty_rows_underlined_at 0x07))) →
    P (Some (with_text_row monochrome_text (twenty_eight_rows_underlined_at 0x0D))) → P (Some (with_text_row monochrome_text (twenty_five_rows_underlined_at 0x0F))) → P None →
    P (with_height_row monochrome_text (monochrome_text_row height))
on_monochrome P height p8 p14 p16 none =
    let Q : Option TextRow → Type 0 = λ text. P (with_height_row monochrome_text text) in
    on_either Q (height == 8) p8 (on_either Q (height == 14) p14 (on_either Q (height == 16) p16 none))

-- a row whose numbers are small enough
record Small (row : ModeRow) : Type 0 where
  pub some_columns : 0 < row.columns
  pub columns : row.columns ≤ 80
  pub rows : row.last_row < 50
  pub height : row.height ≤ 16
  pub port : row.crtc_address < ports_bound
  pub pages : row.pages ≤ 8
  pub memory : row.size * row.pages ≤ 65536

-- the numbers of data whose mode has this row
record Bounds (row : Option ModeRow) (d : BiosData) : Type 0 where
  pub some_columns : 0 < d.columns
  pub columns : d.columns ≤ 80
  pub rows : d.last_row < 50
  pub height : d.height ≤ 16
  pub port : d.crtc_address < ports_bound
  pub pages : pages_of_row row ≤ 8
  pub page : d.page < pages_of_row row
  pub start : d.start ≡ d.size * d.page
  pub memory : d.size * pages_of_row row ≤ 65536

-- data of a small row are small
of_row : (row : ModeRow) (d : BiosData) → Small row → IsDataOfRow row d → Bounds (Some row) d
of_row row d s f =
    let columns = f.columns in let last_row = f.last_row in let high = f.height in let port = f.crtc_address in
    let size = ap (λ n. n * row.pages) f.size in
    let sc = s.some_columns in let c = s.columns in let r = s.rows in let h = s.height in let p = s.port in let m = s.memory in
    record {
      some_columns = omega arith;
      columns = omega arith;
      rows = omega arith;
      height = omega arith;
      port = omega arith;
      pages = s.pages;
      page = f.page;
      start = f.start;
      memory = omega arith;
    }

-- which is computed of a literal row
small : (row : ModeRow) → (nat_lt 0 row.columns && (nat_le row.columns 80 && (nat_lt row.last_row 50 && (nat_le row.height 16
    && (nat_lt row.crtc_address ports_bound && (nat_le row.pages 8 && nat_le (row.size * row.pages) 65536)))))) ≡ true → Small row
small row e = record {
  some_columns = grind (arith, nat_tests);
  columns = grind (arith, nat_tests);
  rows = grind (arith, nat_tests);
  height = grind (arith, nat_tests);
  port = grind (arith, nat_tests);
  pages = grind (arith, nat_tests);
  memory = grind (arith, nat_tests);
}

-- what holds of small rows, and of none, holds of that of any mode and height
on_small : (P : Option ModeRow → Type 0) (mode height : ℕ) → ((row : ModeRow) → Small row → P (Some row)) → P None → P (mode_row_at_height mode height)
on_small P mode height some none =
    each_mode (λ _ x. P (sized x height))
    (on_colour P height (some _ (small _ refl)) (some _ (small _ refl)) (some _ (small _ refl)) none)
    (on_monochrome P height (some _ (small _ refl)) (some _ (small _ refl)) (some _ (small _ refl)) none)
    (some _ (small _ refl)) (some _ (small _ refl)) (some _ (small _ refl)) (some _ (small _ refl)) (λ _. none) mode

-- data that are those of their mode and height are small
bounds_of : (d : BiosData) → FitsModeRow (mode_row_at_height d.mode d.height) d → Bounds (mode_row_at_height d.mode d.height) d
bounds_of d = on_small (λ row. FitsModeRow row d → Bounds row d) d.mode d.height (λ row small. of_row row d small) (λ none. absurd none)

set_of_bounds : (d : BiosData) → Bounds (mode_row_at_height d.mode d.height) d → IsModeSet d
set_of_bounds d b = record {
  some_columns = b.some_columns;
  columns = b.columns;
  rows = b.rows;
  height = b.height;
  port = b.port;
  pages = b.pages;
  page = b.page;
  start = b.start;
  memory = b.memory;
}

-- valid data of a mode are small
pub set_of_valid : (d : BiosData) → IsValid d → d.mode ≢ 0 → IsModeSet d
set_of_valid d (inl unset) set = absurd (set (ap (λ (bios : BiosData). bios.mode) unset))
set_of_valid d (inr fits) set = set_of_bounds d (bounds_of d fits)

-- data whose constants stay fit the row that the old data fit
fits_again : (row : Option ModeRow) (old new : BiosData) → FitsModeRow row old → StaysInMode old new → new.page < pages_of_row row → FitsModeRow row new
fits_again None old new fits stays page = fits
fits_again (Some row) old new fits stays page = record {
  columns = stays.columns ∙ fits.columns;
  size = stays.size ∙ fits.size;
  last_row = stays.last_row ∙ fits.last_row;
  height = stays.height ∙ fits.height;
  crtc_address = stays.crtc_address ∙ fits.crtc_address;
  page = page;
  start = stays.start;
}

-- valid data of a mode stay valid if its constants stay
pub stays_valid : (old new : BiosData) → IsValid old → old.mode ≢ 0 → StaysInMode old new → IsValid new
stays_valid old new (inl unset) set stays = absurd (set (ap (λ (bios : BiosData). bios.mode) unset))
stays_valid old new (inr fits) set stays =
    let again : FitsModeRow (mode_row_at_height old.mode old.height) new = fits_again (mode_row_at_height old.mode old.height) old new fits stays stays.page in
    let same : mode_row_at_height new.mode new.height ≡ mode_row_at_height old.mode old.height = ap (λ mode. mode_row_at_height mode new.height) stays.mode ∙ ap (mode_row_at_height old.mode) stays.height in
    inr (subst (λ row. FitsModeRow row new) (sym same) again)

-- the data that a mode begins with are those of its row
begins_as : (row : ModeRow) (mode : ℕ) → 0 < row.pages → IsDataOfRow row (data_of_mode mode row)
begins_as row mode some = record {
  columns = refl;
  size = refl;
  last_row = refl;
  height = refl;
  crtc_address = refl;
  page = some;
  start = sym (mul-zero row.size);
}

-- a row that begins a mode has a page, and is the mode's at its own height
abbrev BeginsAt : (ℕ → Option ModeRow) → ModeRow → Type 0
BeginsAt rows row = (0 < row.pages) × (rows row.height ≡ Some row)

colour_begins : (height : ℕ) → IfSome (with_height_row colour_text (colour_text_row height)) (BeginsAt (λ h. with_height_row colour_text (colour_text_row h)))
colour_begins height = on_colour (λ x. IfSome x (BeginsAt (λ h. with_height_row colour_text (colour_text_row h)))) height (omega arith, refl) (
  omega arith,
  refl,
) (omega arith, refl) tt

monochrome_begins : (height : ℕ) → IfSome (with_height_row monochrome_text (monochrome_text_row height))
    (BeginsAt (λ h. with_height_row monochrome_text (monochrome_text_row h)))
monochrome_begins height = on_monochrome (λ x. IfSome x (BeginsAt (λ h. with_height_row monochrome_text (monochrome_text_row h)))) height (
  omega arith,
  refl,
) (omega arith, refl) (omega arith, refl) tt

-- each row of a mode and a height begins it
all_begin : (mode height : ℕ) → IfSome (mode_row_at_height mode height) (BeginsAt (mode_row_at_height mode))
all_begin mode height =
    each_mode (λ _ x. IfSome (sized x height) (BeginsAt (sized x))) (colour_begins height) (monochrome_begins height)
    (omega arith, refl) (omega arith, refl) (omega arith, refl) (omega arith, refl) (λ _. tt) mode

-- the data that a mode begins with at a height are valid
pub begins_valid_at : (mode height : ℕ) (row : ModeRow) → mode_row_at_height mode height ≡ Some row → IsValid (data_of_mode mode row)
begins_valid_at mode height row e =
    let h : BeginsAt (mode_row_at_height mode) row = subst (λ x. IfSome x (BeginsAt (mode_row_at_height mode))) e (all_begin mode height) in
    inr (subst (λ x. FitsModeRow x (data_of_mode mode row)) (sym h.1) (begins_as row mode h.0))

-- and those that it begins with at its own
pub begins_valid : (mode : ℕ) (row : ModeRow) → mode_row mode ≡ Some row → IsValid (data_of_mode mode row)
begins_valid mode row e = begins_valid_at mode row.height row (own_row mode row e)

-- ---- function 11

-- a row of text is at most 16 scan lines high
text_height : (mode height : ℕ) (row : ModeRow) → is_text mode ≡ true → mode_row_at_height mode height ≡ Some row → height ≤ 16
text_height mode height row =
    each_mode (λ _ x. is_text_kind (kind_of_row x) ≡ true → sized x height ≡ Some row → height ≤ 16)
    (λ _ e. grind (arith, nat_tests)) (λ _ e. grind (arith, nat_tests)) (λ t _. absurd (cc)) (λ t _. absurd (cc)) (λ t _. absurd (cc)) (λ t _. absurd (cc))
    (λ _ t _. absurd (cc)) mode

-- the glyphs of a load that is not refused, at a height that the mode has, are there
pub there_of : (load : GlyphLoad) (mode len : ℕ) (row : ModeRow) → load_refusal load mode len ≡ None → mode_row_at_height mode load.height ≡ Some row → AreGlyphsThere load len
there_of load mode len row allowed e =
    let block = wrong_or (load_refusal_besides_block load mode) (glyphs_block_len load) len allowed in
    let reason = neither (refuse_unless (is_text mode) WrongKind) _ block.0 in
    let fits = holds (nat_le (load.first + load.count) 256) CountPast reason.1 in
    record {
      height = text_height mode load.height row (holds (is_text mode) WrongKind reason.0) e;
      last = grind (arith, nat_tests);
      whole = λ z. block.1 (glyphs_len load) (ap (λ (b : Bool). let x : Option ℕ = (if b then Some (glyphs_len load) else None) in x) z);
    }

-- the port of a row is small
pub port_small : (mode height : ℕ) (row : ModeRow) → mode_row_at_height mode height ≡ Some row → row.crtc_address < ports_bound
port_small mode height row e = subst (λ x. IfSome x (λ r. r.crtc_address < ports_bound)) e
    (on_small (λ x. IfSome x (λ r. r.crtc_address < ports_bound)) mode height (λ r small. small.port) tt)
