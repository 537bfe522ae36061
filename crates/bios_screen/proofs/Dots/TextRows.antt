-- The text rows of the mode table: what their registers imply for frames, whatever cursor and page
-- the data have.
use Rattle.std.proofs.Common.{◌≡◌, ℕ, ◌+◌, ◌-◌, ◌*◌, ◌/◌, ◌%◌, ◌<◌, ◌≤◌, refl, sym, subst, arith, Bool, false}
use Rattle.std.specs.Prelude.{nat_le, not, ◌==◌, ◌&&◌, bit_and}
use Rattle.std.specs.Int.{bit_at}
use Rattle.bios_screen.proofs.Prelude.{is_set, Beam, beam_at_place_of_regular_frame, CardState, ModeRow, BiosData, crtc_registers, Raster}
use Rattle.vga_bits.specs.Bits.{field}
use Rattle.vga_crtc.specs.Fields.{horizontal_total, horizontal_display_end, vertical_total, preset_row_scan, vertical_display_end, line_compare}
use Rattle.vga_crtc.specs.Fields.{byte_panning, cursor_start, is_cursor_off, cursor_end, cursor_location, underline_location}
use Rattle.vga_crtc.specs.Fields.{is_double_word, is_address_wrap, is_byte_mode, maximum_scan_line, is_double_scan, offset}
use Rattle.vga_dots.specs.SourceDot.{fetch_address}
use Rattle.bios_modes.specs.Palette.{is_monochrome_mode}
use Rattle.bios_services.specs.Registers.{high, low}
use Rattle.bios_screen.proofs.Modes.Frames.{IsFrame, computed_frame, HasShades}
use Rattle.bios_screen.proofs.Modes.TextModes.{Display, Height, row_with, number_of}
use Rattle.bios_screen.proofs.Modes.TextModes.Display.{Colour, Monochrome}
use Rattle.bios_screen.proofs.Modes.TextModes.Height.{Eight, Fourteen, Sixteen}
use Rattle.bios_screen.proofs.Shows.Screens.{IsShown}

-- the numbers of a text row's frames
abbrev pub text_raster : ModeRow → Raster
text_raster row = record { dots = 9; columns = row.columns; height = row.height * (row.last_row + 1); characters = 100; lines = 449 }

-- the beam at dot k of character x of line v, in a text frame whose counter began at a
abbrev pub beam_of : ModeRow → ℕ → ℕ → ℕ → ℕ → ℕ → Beam
beam_of row a frame v x k = record {
  frame = frame;
  line = v;
  character = x;
  dot = k;
  base = (a + row.columns * (v / row.height)) % 65536;
  scan = v % row.height;
  half = false;
  split = false;
}

-- the lines of a text row, its fetch addresses and its underline
pub record HasTextLines (mode : ℕ) (row : ModeRow) : Type 0 where
  pub some_lines : 0 < row.height
  pub short : row.height ≤ 16
  pub beam : (a frame v x k : ℕ) → beam_at_place_of_regular_frame row.crtc a frame v x k ≡ beam_of row a frame v x k
  pub fetch : (n : ℕ) → fetch_address row.crtc n ≡ 2 * n % 65536 + bit_at n 15
  pub underline : (v : Bool) (r : ℕ) → (is_monochrome_mode mode && v && r == underline_location row.crtc)
      ≡ (is_monochrome_mode mode && (v && (r == row.height - 1)))

-- a text row with all that it implies for frames
pub record IsTextFrame (mode : ℕ) (row : ModeRow) : Type 0 where
  pub frame : IsFrame (text_raster row) row
  pub shades : HasShades row
  pub lines : HasTextLines mode row
  pub open lines use *

-- in any row, the cursor depends on the type and the location in the data
pub cursor_by : (row : ModeRow) (type start location k r : ℕ) (f : Bool) → (let l = crtc_registers row type start location in (k == cursor_location l)
    && not (is_cursor_off l) && nat_le (cursor_start l) r && nat_le r (cursor_end l) && f)
    ≡ ((k == 256 * (location / 256) + location % 256) && not (is_set (bit_and (high type) 0x3F) 5) && nat_le (field (bit_and (high type) 0x3F) 4 0) r
    && nat_le r (field (bit_and (low type) 0x7F) 4 0) && f)
unfolding cursor_location is_cursor_off cursor_start cursor_end
cursor_by row type start location k r f = refl

-- ---- each text row is one

frame_by : (disp : Display) (height : Height) → IsFrame (text_raster (row_with disp height)) (row_with disp height)
unfolding horizontal_total horizontal_display_end vertical_total vertical_display_end line_compare preset_row_scan byte_panning
frame_by Colour Eight = computed_frame _ _ refl
frame_by Colour Fourteen = computed_frame _ _ refl
frame_by Colour Sixteen = computed_frame _ _ refl
frame_by Monochrome Eight = computed_frame _ _ refl
frame_by Monochrome Fourteen = computed_frame _ _ refl
frame_by Monochrome Sixteen = computed_frame _ _ refl

shades_by : (disp : Display) (height : Height) → HasShades (row_with disp height)
shades_by Colour _ = record { on = refl; many = refl; wide = refl; planes = refl; select = refl }
shades_by Monochrome _ = record { on = refl; many = refl; wide = refl; planes = refl; select = refl }

lines_by : (disp : Display) (height : Height) → HasTextLines (number_of disp) (row_with disp height)
unfolding maximum_scan_line is_double_scan offset fetch_address is_double_word is_byte_mode is_address_wrap underline_location
lines_by Colour Eight = record { some_lines = omega arith; short = omega arith; beam = λ _ _ _ _ _. refl; fetch = λ _. refl; underline = λ v r. refl }
lines_by Colour Fourteen = record { some_lines = omega arith; short = omega arith; beam = λ _ _ _ _ _. refl; fetch = λ _. refl; underline = λ v r. refl }
lines_by Colour Sixteen = record { some_lines = omega arith; short = omega arith; beam = λ _ _ _ _ _. refl; fetch = λ _. refl; underline = λ v r. refl }
lines_by Monochrome Eight = record { some_lines = omega arith; short = omega arith; beam = λ _ _ _ _ _. refl; fetch = λ _. refl; underline = λ v r. refl }
lines_by Monochrome Fourteen = record { some_lines = omega arith; short = omega arith; beam = λ _ _ _ _ _. refl; fetch = λ _. refl; underline = λ v r. refl }
lines_by Monochrome Sixteen = record { some_lines = omega arith; short = omega arith; beam = λ _ _ _ _ _. refl; fetch = λ _. refl; underline = λ v r. refl }

-- the row of a shown text screen is one
pub frame_of : (c : CardState) (d : BiosData) (h : IsShown c d) → IsTextFrame d.mode h.row
frame_of c d h = subst (λ m. IsTextFrame m h.row) (sym h.number) (subst (IsTextFrame (number_of h.display)) (sym h.row_is) (record {
  frame = frame_by h.display h.height;
  shades = shades_by h.display h.height;
  lines = lines_by h.display h.height;
}))
