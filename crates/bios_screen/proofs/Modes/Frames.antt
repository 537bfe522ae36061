-- What a mode table row's registers imply for frames and colours, whatever cursor and page the data
-- have.
use Rattle.std.proofs.Common.{◌≡◌, ℕ, ◌+◌, ◌*◌, ◌/◌, ◌%◌, ◌<◌, refl, ap, ◌∙◌, arith, Bool, true, false, List, length}
use Rattle.std.proofs.lemmas.Bool.{and_parts, eqb-true}
use Rattle.std.proofs.lemmas.Bool.Decides.{nat_tests}
use Rattle.std.specs.Prelude.{◌==◌, ◌&&◌, if◌then◌else◌, nat_lt, nat_le, slice_index, bit_and, bit_or}
use Rattle.bios_screen.proofs.Prelude.{is_set, first_counter, beam_at_place_of_regular_frame, ModeRow, crtc_registers, Raster}
use Rattle.vga_crtc.specs.Fields.{horizontal_total, horizontal_display_end, vertical_total, preset_row_scan, byte_panning, maximum_scan_line, is_double_scan}
use Rattle.vga_crtc.specs.Fields.{start_address as address_of, vertical_display_end, offset, underline_location, is_double_word, is_address_wrap, is_byte_mode}
use Rattle.vga_crtc.specs.Fields.{line_compare}
use Rattle.vga_crtc.specs.Beam.{characters, lines}
use Rattle.vga_crtc.specs.Raster.{IsRegularFrameWithoutSplit}
use Rattle.vga_dots.specs.SourceDot.{fetch_address}
use Rattle.bios_screen.specs.Raster.{IsRaster}
use Rattle.bios_screen.proofs.Base.Tests.{le_is}

-- the numbers of frames, from the registers, if a character has w dots
abbrev pub numbers_of : ℕ → List ℕ → Raster
numbers_of w l = record { dots = w; columns = horizontal_display_end l + 1; height = vertical_display_end l + 1; characters = characters l; lines = lines l }

-- by how many dots panning p shifts a line, with these sequencer and graphics registers
abbrev pub panned_by : List ℕ → List ℕ → ℕ → ℕ
panned_by seq gfx p =
    if is_set (slice_index gfx 6) 0 && is_set (slice_index gfx 5) 6 then bit_and p 6
    else if is_set (slice_index seq 1) 0 then p % 8
    else if p == 8 then 0
    else p % 8 + 1

-- the row's frames have these numbers; none is split, begins within a row of characters, or is
-- panned
pub record IsFrame (m : Raster) (row : ModeRow) : Type 0 where
  pub raster : IsRaster m
  pub clock : (if is_set (slice_index row.sequencer 1) 0 then 8 else 9) ≡ m.dots
  pub numbers : numbers_of m.dots row.crtc ≡ m
  pub regular : IsRegularFrameWithoutSplit row.crtc
  pub whole : byte_panning row.crtc ≡ 0
  pub attributes : length row.attribute ≡ 21
  pub still : panned_by row.sequencer row.graphics (slice_index row.attribute 0x13) ≡ 0

-- text and sixteen colours: the screen is on, all four bits of a dot count, and so do all six of a
-- palette register
pub record HasShades (row : ModeRow) : Type 0 where
  pub on : is_set (slice_index row.sequencer 1) 5 ≡ false
  pub many : (is_set (slice_index row.graphics 6) 0 && is_set (slice_index row.graphics 5) 6) ≡ false
  pub wide : is_set (bit_and (slice_index row.attribute 0x10) 0xF7) 7 ≡ false
  pub planes : slice_index row.attribute 0x12 ≡ 0x0F
  pub select : slice_index row.attribute 0x14 ≡ 0

-- blinking is bit 3 of mode control; the other bits are the row's
abbrev pub Blinks : ModeRow → ℕ → Type 0
Blinks row b =
    let v = bit_and (slice_index row.attribute 0x10) 0xF7 in
    (bit_and (bit_and (bit_or v (8 * b)) 0xEF) 0xF7 ≡ v) × (is_set (bit_and (bit_or v (8 * b)) 0xEF) 3 ≡ (b == 1))

-- ---- one test, computed for a literal row

abbrev has_numbers : Raster → Bool
has_numbers m = nat_lt 0 m.dots && (nat_lt 0 m.columns && (nat_lt 0 m.height && (nat_le m.columns m.characters && nat_le m.height m.lines)))

abbrev are_numbers : Raster → List ℕ → Bool
are_numbers m l = (horizontal_display_end l + 1 == m.columns) && ((vertical_display_end l + 1 == m.height) && ((characters l == m.characters)
    && (lines l == m.lines)))

abbrev is_uncut : List ℕ → Bool
is_uncut l = nat_le (lines l) (line_compare l + 1) && ((preset_row_scan l == 0) && (byte_panning l == 0))

abbrev is_still : ModeRow → Bool
is_still row = (length row.attribute == 21) && (panned_by row.sequencer row.graphics (slice_index row.attribute 0x13) == 0)

abbrev pub is_frame : Raster → ModeRow → Bool
is_frame m row = has_numbers m && (((if is_set (slice_index row.sequencer 1) 0 then 8 else 9) == m.dots) && (are_numbers m row.crtc
    && (is_uncut row.crtc && is_still row)))

fits : (m : Raster) → has_numbers m ≡ true → IsRaster m
fits m e = record {
  some_dots = grind (arith, nat_tests);
  some_columns = grind (arith, nat_tests);
  some_lines = grind (arith, nat_tests);
  narrow = grind (arith, nat_tests);
  low = grind (arith, nat_tests);
}

numbers_are : (m : Raster) (l : List ℕ) → are_numbers m l ≡ true → numbers_of m.dots l ≡ m
numbers_are m l e =
    let columns = and_parts (horizontal_display_end l + 1 == m.columns) _ e in
    let height = and_parts (vertical_display_end l + 1 == m.height) _ columns.1 in
    let rest = and_parts (characters l == m.characters) (lines l == m.lines) height.1 in
    λ i. record {
      dots = m.dots;
      columns = eqb-true _ _ columns.0 i;
      height = eqb-true _ _ height.0 i;
      characters = eqb-true _ _ rest.0 i;
      lines = eqb-true _ _ rest.1 i;
    }

pub computed_frame : (m : Raster) (row : ModeRow) → is_frame m row ≡ true → IsFrame m row
computed_frame m row e =
    let raster = and_parts (has_numbers m) _ e in
    let clock = and_parts ((if is_set (slice_index row.sequencer 1) 0 then 8 else 9) == m.dots) _ raster.1 in
    let numbers = and_parts (are_numbers m row.crtc) _ clock.1 in
    let rest = and_parts (is_uncut row.crtc) (is_still row) numbers.1 in
    let uncut = and_parts (nat_le (lines row.crtc) (line_compare row.crtc + 1)) _ rest.0 in
    let unscrolled = and_parts (preset_row_scan row.crtc == 0) (byte_panning row.crtc == 0) uncut.1 in
    let still = and_parts (length row.attribute == 21) _ rest.1 in
    record {
      raster = fits m raster.0;
      clock = eqb-true _ _ clock.0;
      numbers = numbers_are m row.crtc numbers.0;
      regular = record { uncut = le_is (lines row.crtc) (line_compare row.crtc + 1) uncut.0; unscrolled = eqb-true _ _ unscrolled.0 };
      whole = eqb-true _ _ unscrolled.1;
      attributes = eqb-true _ _ still.0;
      still = eqb-true _ _ still.1;
    }

begins_at : (start : ℕ) → start < 65536 → (256 * (start / 256) + start % 256 + 0) % 65536 ≡ start
begins_at start l = omega arith

-- ---- cursor and start address do not change the numbers of frames

module _ (row : ModeRow) (type start location : ℕ) where
  abbrev l : List ℕ
  l = crtc_registers row type start location

  pub numbers_stay : (w : ℕ) → numbers_of w l ≡ numbers_of w row.crtc
  unfolding horizontal_total horizontal_display_end vertical_total vertical_display_end
  numbers_stay w = refl

  pub regular_stays : IsRegularFrameWithoutSplit row.crtc → IsRegularFrameWithoutSplit l
  unfolding vertical_total line_compare preset_row_scan
  regular_stays r = record { uncut = r.uncut; unscrolled = r.unscrolled }

  pub beam_stays : (a frame v x k : ℕ) → beam_at_place_of_regular_frame l a frame v x k ≡ beam_at_place_of_regular_frame row.crtc a frame v x k
  unfolding maximum_scan_line is_double_scan offset
  beam_stays a frame v x k = refl

  pub fetch_stays : (n : ℕ) → fetch_address l n ≡ fetch_address row.crtc n
  unfolding fetch_address is_double_word is_byte_mode is_address_wrap
  fetch_stays n = refl

  pub underline_stays : underline_location l ≡ underline_location row.crtc
  unfolding underline_location
  underline_stays = refl

  -- a frame begins at the start address
  pub begins_with : byte_panning row.crtc ≡ 0 → start < 65536 → first_counter l ≡ start
  unfolding address_of byte_panning
  begins_with e small = ap (λ n. (256 * (start / 256) + start % 256 + n) % 65536) e ∙ begins_at start small
