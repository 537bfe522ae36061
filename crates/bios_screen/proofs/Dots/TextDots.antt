-- Each dot of a text frame is the screen's.
use Rattle.std.proofs.Common.{◌≡◌, ℕ, ◌+◌, ◌-◌, ◌*◌, ◌/◌, ◌%◌, ◌<◌, refl, sym, ap, subst, ◌∙◌, arith, Bool, true, false, List}
use Rattle.std.specs.Prelude.{nat_lt, nat_le, not, if◌then◌else◌, ◌==◌, ◌&&◌, slice_index, bit_and}
use Rattle.std.specs.Int.{bit_at}
use Rattle.std.proofs.lemmas.Nat.{and_mask}
use Rattle.bios_screen.proofs.Prelude.{is_set, Beam, CrtcState, beam_at_place_of_regular_frame, IsCard, CardState, BiosData, start_address, Cell, Screen, cell_in, text_memory_cells}
use Rattle.bios_screen.proofs.Prelude.{colour_by_palette}
use Rattle.vga_bits.specs.Bits.{field}
use Rattle.vga_planes.specs.Planes.{byte_at}
use Rattle.vga_host.specs.Sequencer.{character_map_a, character_map_b}
use Rattle.vga_host.specs.Graphics.{is_graphics}
use Rattle.vga_crtc.specs.Fields.{cursor_start, is_cursor_off, cursor_end, cursor_location, underline_location}
use Rattle.vga_attr.specs.Fields.{is_monochrome, is_line_graphics}
use Rattle.vga_dots.specs.declared.source_dot.SourceDot.{SourceDot}
use Rattle.vga_dots.specs.declared.text.Cell.{Cell as GraphicsCell}
use Rattle.vga_dots.specs.SourceDot.{source_dot, fetch_address}
use Rattle.vga_dots.specs.Text.{cell_at, map_start, glyph_row as row_of_glyph, is_glyph_dot as is_dot_of_glyph, is_underlined as is_cell_underlined}
use Rattle.vga_dots.specs.Text.{is_blinked_away as is_cell_blinked, is_cursor_at, is_foreground as is_cell_foreground, text_nibble}
use Rattle.vga_dots.specs.Colour.{nibble as dot_nibble, dot_colour}
use Rattle.bios_services.specs.Registers.{high, low}
use Rattle.bios_services.specs.Cursor.{cursor_address, cell_number_at, cursor_position_of}
use Rattle.bios_screen.specs.Screen.{cursor_cell_on_screen}
use Rattle.bios_screen.specs.Shown.{glyph_byte_in_plane_2, glyph_bytes_in_plane_2}
use Rattle.bios_screen.specs.Step.{cell_on}
use Rattle.bios_screen.specs.Picture.{glyph_row, is_glyph_dot, is_underlined, is_blinked_away, is_cursor, is_foreground, background, nibble}
use Rattle.bios_screen.proofs.Base.Lists.{listed_at}
use Rattle.bios_screen.proofs.Base.Setting.{Setting}
use Rattle.std.proofs.lemmas.Nat.{mod_below}
use Rattle.std.proofs.Math.Nat.{div-lt_iff_lt-mul}
use Rattle.bios_modes.specs.Palette.{is_monochrome_mode}
use Rattle.bios_screen.proofs.Base.Places.{ends_before}
use Rattle.bios_screen.proofs.Dots.Colours.{control_bit, coloured, dot_shade}
use Rattle.bios_screen.proofs.Dots.Frames as frames
use Rattle.bios_screen.proofs.Dots.TextRows.{IsTextFrame, text_raster, cursor_by, frame_of}
use Rattle.bios_screen.proofs.Modes.Frames.{underline_stays}
use Rattle.bios_screen.proofs.Modes.TextModes.{Display, number_of, window_of, control_of}
use Rattle.bios_screen.proofs.Modes.TextModes.Display.{Colour, Monochrome}
use Rattle.bios_screen.proofs.Shows.Screens.{IsShown, screen_shown, all_of, control_is}
use Rattle.bios_screen.proofs.Text.NewCells.{cells_at}
use Rattle.bios_screen.proofs.Text.Writes.{lies}

-- ---- what differs between the two displays

not_graphics : (k : Display) → is_set (window_of k) 0 ≡ false
not_graphics Colour = refl
not_graphics Monochrome = refl

mono_by : (k : Display) → is_set (control_of k) 1 ≡ is_monochrome_mode (number_of k)
mono_by Colour = refl
mono_by Monochrome = refl

line_by : (k : Display) → is_set (control_of k) 2 ≡ true
line_by Colour = refl
line_by Monochrome = refl

-- ---- numbers

counter_is : (a b x : ℕ) → a + (b + x) < 16384 → (a + b + x) % 65536 ≡ a + (b + x)
counter_is a b x l = omega arith

address_is : (n : ℕ) → n < 16384 → 2 * n % 65536 + bit_at n 15 ≡ 2 * n
address_is n l = omega arith

base_is : (a b : ℕ) → a + b < 16384 → (a + b) % 65536 ≡ a + b
base_is a b l = omega arith

start_field : (n : ℕ) → field (bit_and n 0x3F) 4 0 ≡ field n 4 0
start_field n = let e = and_mask n 6 in omega (arith, e)

end_field : (n : ℕ) → field (bit_and n 0x7F) 4 0 ≡ field n 4 0
end_field n = let e = and_mask n 7 in omega (arith, e)

off_bit : (n : ℕ) → is_set (bit_and n 0x3F) 5 ≡ is_set n 5
off_bit n = let e = and_mask n 6 in let f : bit_at (bit_and n 0x3F) 5 ≡ bit_at n 5 = omega (arith, e) in ap (λ b. b == 1) f

two_bytes : (n : ℕ) → 256 * (n / 256) + n % 256 ≡ n
two_bytes n = omega arith

glyphs_at : (plane2 : List ℕ) (n i : ℕ) → i < n → slice_index (glyph_bytes_in_plane_2 plane2 n) i ≡ glyph_byte_in_plane_2 plane2 i
unfolding glyph_bytes_in_plane_2
glyphs_at plane2 n i l = listed_at (glyph_byte_in_plane_2 plane2) n i 0 l

-- ---- dot k of character x of line v

module _ (c : CardState) (d : BiosData) (h : IsShown c d) (z : IsCard c) (g : ℕ) (lg : g < h.row.pages) where
  abbrev s : Screen
  s = screen_shown c d h

  abbrev disp : Display
  disp = h.display

  -- ---- the numbers of the row

  abbrev t : IsTextFrame d.mode h.row
  t = frame_of c d h

  abbrev half : ℕ
  half = h.text.half

  abbrev columns : ℕ
  columns = h.row.columns

  abbrev height : ℕ
  height = h.row.height

  abbrev rows : ℕ
  rows = h.row.last_row + 1

  -- a line of the picture belongs to a row of the page
  row_there : (v : ℕ) → v < height * rows → v / height < rows
  row_there v l = let e : height * rows ≡ rows * height = omega arith in (div-lt_iff_lt-mul t.some_lines).1 (subst (λ n. v < n) e l)

  place_there : (v x : ℕ) → v < height * rows → x < columns → columns * (v / height) + x < columns * rows
  place_there v x lv lx = let e = ends_before columns (v / height) rows (row_there v lv) in omega arith

  -- a cell of the page lies within text memory
  within : (q : ℕ) → q < columns * rows → half * g + q < 16384
  within q l = let a = h.text.fits in let b = ends_before half g h.row.pages lg in let m = h.text.memory in omega arith

  scan_small : (v : ℕ) → v % height < 16
  scan_small v = let a = mod_below v height t.some_lines in let b = t.short in omega arith

  -- the beam at that dot
  abbrev pub text_beam : ℕ → ℕ → ℕ → ℕ → Beam
  text_beam frame v x k = record {
    frame = frame;
    line = v;
    character = x;
    dot = k;
    base = half * g + columns * (v / height);
    scan = v % height;
    half = false;
    split = false;
  }

  -- ---- registers

  graphics_off : is_graphics c.host ≡ false
  graphics_off = ap (λ (t : Setting). is_set (slice_index t.gfx 6) 0) h.setting ∙ not_graphics disp

  mono_is : is_monochrome c.attr ≡ is_monochrome_mode d.mode
  mono_is = control_bit (slice_index c.attr.registers 0x10) (control_of disp) 1 (control_is c d h) refl ∙ mono_by disp ∙ ap is_monochrome_mode (sym h.number)

  line_is : is_line_graphics c.attr ≡ true
  line_is = control_bit (slice_index c.attr.registers 0x10) (control_of disp) 2 (control_is c d h) refl ∙ line_by disp

  -- ---- where a dot comes from

  -- the CRT controller at that dot
  abbrev placed : ℕ → ℕ → ℕ → CrtcState
  placed v x k = record c.crtc { beam = text_beam c.crtc.beam.frame v x k }

  pub beam_is : (v x k : ℕ) → v < height * rows → beam_at_place_of_regular_frame c.crtc.registers (half * g) c.crtc.beam.frame v x k ≡ text_beam c.crtc.beam.frame v x k
  beam_is v x k lv =
      let some = h.text.some_columns in
      let there = place_there v 0 lv some in
      let small = within (columns * (v / height) + 0) there in
      frames.beam_is (text_raster h.row) h.row t.frame c d (all_of h.row c d h.tests) (half * g) c.crtc.beam.frame v x k
      ∙ t.beam (half * g) c.crtc.beam.frame v x k
      ∙ ap (λ b. record (text_beam c.crtc.beam.frame v x k) { base = b }) (base_is (half * g) (columns * (v / height)) (omega arith))

  source_is : (v x k : ℕ) → v < height * rows → x < columns → k < 9 → source_dot c.host (placed v x k) c.attr
      ≡ record { counter = half * g + (columns * (v / height) + x); dot = k }
  source_is v x k lv lx lk =
      frames.source_is (text_raster h.row) h.row t.frame c d (all_of h.row c d h.tests) z (text_beam c.crtc.beam.frame v x k) refl lk
      ∙ ap (λ n. let q : SourceDot = record { counter = n; dot = k } in q) (counter_is (half * g) (columns * (v / height)) x
      (within (columns * (v / height) + x) (place_there v x lv lx)))

  -- cell q of the page, from the planes
  abbrev there : ℕ → Cell
  there q = cell_in c.host.memory.plane0 c.host.memory.plane1 (half * g + q)

  abbrev dot_cell : ℕ → GraphicsCell
  dot_cell q = record { character = (there q).0; attribute = (there q).1 }

  cell_is : (q : ℕ) → q < columns * rows → cell_at c.host (fetch_address c.crtc.registers (half * g + q)) ≡ dot_cell q
  unfolding cell_at
  cell_is q lq =
      let n = half * g + q in
      ap (cell_at c.host) (frames.fetch_is (text_raster h.row) h.row t.frame c d (all_of h.row c d h.tests) n ∙ t.fetch n ∙ address_is n (within q lq))

  on_screen : (q : ℕ) → q < columns * rows → cell_on s (half * g + q) ≡ there q
  on_screen q lq = cells_at c.host.memory.plane0 c.host.memory.plane1 text_memory_cells (half * g + q) (within q lq)

  -- ---- the glyph

  map_none : (b : Bool) → (if b then character_map_a c.host else character_map_b c.host) ≡ 0
  map_none true = ap (λ (t : Setting). field (slice_index t.seq 3) 3 2 + 4 * bit_at (slice_index t.seq 3) 5) h.setting
  map_none false = ap (λ (t : Setting). field (slice_index t.seq 3) 1 0 + 4 * bit_at (slice_index t.seq 3) 4) h.setting

  row_is : (q r : ℕ) → r < 16 → row_of_glyph c.host (dot_cell q) r ≡ glyph_row s (there q).0 r
  unfolding row_of_glyph
  row_is q r lr =
      let ch = (there q).0 in
      let small : ch < 256 = z.host.memory.bytes 0 (omega arith) (2 * (half * g + q)) in
      let e : 0 + 32 * ch + r ≡ 32 * ((16 * ch + r) / 16) + (16 * ch + r) % 16 = omega arith in
      ap (λ i. byte_at c.host.memory 2 (map_start i + 32 * ch + r)) (map_none (is_set (there q).1 3))
      ∙ ap (byte_at c.host.memory 2) e
      ∙ sym (glyphs_at c.host.memory.plane2 4096 (16 * ch + r) (omega arith))

  glyph_dot_is : (q r i : ℕ) → r < 16 → is_dot_of_glyph c.attr (there q).0 (row_of_glyph c.host (dot_cell q) r) i
      ≡ is_glyph_dot (there q).0 (glyph_row s (there q).0 r) i
  unfolding is_dot_of_glyph
  glyph_dot_is q r i lr =
      let ch = (there q).0 in
      let byte = glyph_row s ch r in
      rw (row_is q r lr, line_is) (ap (λ w. if nat_lt i 8 then is_set byte (7 - i) else w) (regrouped (nat_le 0xC0 ch) (nat_le ch 0xDF) (is_set byte 0)))
    where
      regrouped : (a b e : Bool) → (true && a && b && e) ≡ (a && (b && e))
      regrouped true b e = refl
      regrouped false b e = refl

  -- ---- underline, blink, cursor

  underlined_is : (q v x k : ℕ) → is_cell_underlined (placed v x k) c.attr (dot_cell q) ≡ is_underlined s (there q) (v % height)
  unfolding is_cell_underlined
  underlined_is q v x k =
      let a = bit_and (there q).1 0x77 == 1 in
      let last : h.row.height - 1 ≡ d.height - 1 = let e = h.has.height in omega arith in
      ap (λ w. w && a && v % height == underline_location c.crtc.registers) mono_is
      ∙ ap (λ n. is_monochrome_mode d.mode && a && v % height == n)
      (ap underline_location h.tests.crtc ∙ underline_stays h.row d.cursor_type (start_address d d.page) (cursor_address d d.page))
      ∙ t.underline a (v % height)
      ∙ ap (λ n. is_monochrome_mode d.mode && (a && (v % height == n))) last

  blinked_is : (q v x k : ℕ) → is_cell_blinked (placed v x k) c.attr (dot_cell q) ≡ is_blinked_away s (there q)
  unfolding is_cell_blinked
  blinked_is q v x k = three (is_set_blink) (is_set (there q).1 7) (nat_le 16 c.crtc.beam.frame)
    where
      is_set_blink : Bool
      is_set_blink = s.is_blink

      three : (a b e : Bool) → (a && b && e) ≡ (a && (b && e))
      three true b e = refl
      three false b e = refl

  -- the cursor location is that of the screen's cursor cell
  location_is : cursor_address d d.page ≡ cursor_cell_on_screen s d.page
  location_is =
      let e = (lies c d h).even d.page in
      let n = d.size / 2 * d.page in
      let halved : d.size * d.page / 2 ≡ n = omega arith in
      ap (λ a. a + cell_number_at d (cursor_position_of d d.page)) halved

  cursor_is : (n v x k : ℕ) → is_cursor_at (placed v x k) n ≡ is_cursor s n (v % height)
  unfolding is_cursor_at
  cursor_is n v x k =
      let r = v % height in
      let location = cursor_address d d.page in
      let type = d.cursor_type in
      let f = nat_lt (c.crtc.beam.frame % 16) 8 in
      ap (λ l. (n == cursor_location l) && not (is_cursor_off l) && nat_le (cursor_start l) r && nat_le r (cursor_end l) && f) h.tests.crtc
      ∙ cursor_by h.row type (start_address d d.page) location n r f
      ∙ rw (two_bytes location, location_is, off_bit (high type), start_field (high type), end_field (low type))
      (regrouped (n == cursor_cell_on_screen s d.page) (not (is_set (high type) 5)) (nat_le (field (high type) 4 0) r) (nat_le r (field (low type) 4 0)) f)
    where
      regrouped : (a b e q w : Bool) → (a && b && e && q && w) ≡ (a && (b && (e && (q && w))))
      regrouped true true true q w = refl
      regrouped true true false q w = refl
      regrouped true false e q w = refl
      regrouped false b e q w = refl

  -- ---- the four bits of a dot

  -- a dot has its cell's foreground exactly if it has it on the screen
  on_is : (q v x k : ℕ) → q < columns * rows → is_cell_foreground c.host (placed v x k) c.attr (record { counter = half * g + q; dot = k }) (dot_cell q)
      ≡ is_foreground s (half * g + q) (v % height) k
  unfolding is_cell_foreground is_foreground
  on_is q v x k lq =
      let r = v % height in
      let lr = scan_small v in
      let n = half * g + q in
      rw (cursor_is n v x k, blinked_is q v x k, underlined_is q v x k, glyph_dot_is q r k lr)
      (ap (λ (p : Cell). if is_cursor s n r then true else if is_blinked_away s p then false else if is_underlined s p r then true
      else is_glyph_dot p.0 (glyph_row s p.0 r) k) (sym (on_screen q lq)))

  nibble_is : (q v x k : ℕ) → q < columns * rows → text_nibble c.host (placed v x k) c.attr (record { counter = half * g + q; dot = k })
      ≡ nibble s (half * g + q) (v % height) k
  unfolding text_nibble nibble
  nibble_is q v x k lq =
      rw (cell_is q lq, on_is q v x k lq)
      (ap (λ (p : Cell). if is_foreground s (half * g + q) (v % height) k then field p.1 3 0 else background s p) (sym (on_screen q lq)))

  dot_bits : (v x k : ℕ) → v < height * rows → x < columns → k < 9 → dot_nibble c.host (placed v x k) c.attr
      ≡ nibble s (half * g + (columns * (v / height) + x)) (v % height) k
  unfolding dot_nibble
  dot_bits v x k lv lx lk = rw (graphics_off, source_is v x k lv lx lk) (nibble_is (columns * (v / height) + x) v x k (place_there v x lv lx))

  small_if : (b w : Bool) (x y q : ℕ) → x < 16 → y < 16 → q < 16 → (if b then x else if w then y else q) < 16
  small_if true w x y q lx ly lq = lx
  small_if false true x y q lx ly lq = ly
  small_if false false x y q lx ly lq = lq

  nibble_small : (n r i : ℕ) → nibble s n r i < 16
  unfolding nibble
  nibble_small n r i = let a = (cell_on s n).1 in small_if (is_foreground s n r i) s.is_blink (field a 3 0) (field a 6 4) (field a 7 4) (omega arith)
      (omega arith) (omega arith)

  -- ---- its colour

  -- the dot has the screen's colour
  pub place_is : (v x k : ℕ) → v < height * rows → x < columns → k < 9 → dot_colour c.host (placed v x k) c.attr c.dac
      ≡ colour_by_palette s.palette (nibble s (half * g + (columns * (v / height) + x)) (v % height) k)
  place_is v x k lv lx lk =
      let n = half * g + (columns * (v / height) + x) in
      dot_shade c (coloured h.row c d t.shades t.frame.attributes (all_of h.row c d h.tests) z) z (placed v x k) (nibble s n (v % height) k)
      (dot_bits v x k lv lx lk) (nibble_small n (v % height) k)
