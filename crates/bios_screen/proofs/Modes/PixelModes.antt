-- The graphics rows of the mode table. What a row implies is computed here once, and cited
-- elsewhere.
use Rattle.std.proofs.Common.{◌≡◌, ℕ, ◌+◌, ◌*◌, ◌/◌, ◌%◌, ◌<◌, ◌≤◌, refl, arith, true, false, Some}
use Rattle.std.specs.Prelude.{slice_index, IsTrue, ◌&&◌, nat_lt, nat_le}
use Rattle.std.proofs.lemmas.Bool.Decides.{nat_tests}
use Rattle.bios_screen.proofs.Prelude.{is_set, beam_at_place_of_regular_frame, DacState, CardState, crtc_port, ModeRow, Planar, data_of_mode, mode_row_at_height, bytes_320_by_200, is_text}
use Rattle.bios_screen.proofs.Prelude.{is_mode_of_256_colours, kind_of, page_0_address_of_mode, Raster}
use Rattle.vga_crtc.specs.Ports.{after_out as after_crtc}
use Rattle.vga_crtc.specs.Fields.{horizontal_total, horizontal_display_end, vertical_total, preset_row_scan, byte_panning, maximum_scan_line, is_double_scan}
use Rattle.vga_crtc.specs.Fields.{vertical_display_end, offset, is_double_word, is_byte_mode, line_compare, is_protected, overflow}
use Rattle.vga_card.specs.Port.{port_of, crtc_port_of}
use Rattle.vga_card.specs.Cycles.{out_reached, inp_reached}
use Rattle.vga_dots.specs.SourceDot.{fetch_address}
use Rattle.bios_modes.specs.Modes.{planes_320_by_200, planes_640_by_350, planes_640_by_480}
use Rattle.bios_services.specs.Cycles.{write_registers_from_0, write_attribute_registers}
use Rattle.bios_services.specs.ModeSet.{write_registers_plan}
use Rattle.bios_screen.specs.Shown.{shows}
use Rattle.bios_screen.specs.Picture.{pixel_width, pixel_height}
use Rattle.bios_screen.specs.Raster.{shown_dots_of_line, all_dots_of_line}
use Rattle.bios_screen.specs.Drawing.{dots_a_line, lines_a_frame}
use Rattle.bios_screen.proofs.Base.Places.{ends_before}
use Rattle.bios_screen.proofs.Base.Setting.{Setting}
use Rattle.bios_screen.proofs.Modes.Frames.{IsFrame, computed_frame, HasShades, Blinks}
use Rattle.bios_screen.proofs.Modes.Registers.{in_mode, IsSet}
use Rattle.bios_screen.proofs.Planar.Settings.{drawing, at_rest}

-- the registers that memory cycles depend on
abbrev pub setting_of : ModeRow → Setting
setting_of row = record { misc = row.misc; seq = row.sequencer; gfx = row.graphics }

-- how many pixels a page of this row has
abbrev pub pixels_of : ModeRow → ℕ
pixels_of row = 8 * row.columns * (row.height * (row.last_row + 1))

-- ---- what a graphics row implies

-- it is the mode's row at any height, and after a mode set the test holds
pub record IsListed (mode : ℕ) (row : ModeRow) : Type 0 where
  pub there : (height : ℕ) → mode_row_at_height mode height ≡ Some row
  pub text : is_text mode ≡ false
  pub port : row.crtc_address ≡ crtc_port row.misc
  pub whole : IsTrue (is_mode_of_256_colours mode) → pixels_of row ≤ row.size
  pub steady : Blinks row 0
  pub blinks : Blinks row 1
  pub fresh : (c : CardState) (d : DacState) → shows row (record (in_mode row c) { dac = d }) (data_of_mode mode row) ≡ true

-- the sizes of its characters and pages
pub record HasRoom (row : ModeRow) : Type 0 where
  pub some_columns : 0 < row.columns
  pub narrow : row.columns ≤ 80
  pub some_lines : 0 < row.height
  pub short : row.height ≤ 16
  pub low : row.last_row < 255
  pub few : row.pages ≤ 8
  pub some : 0 < row.size
  pub bytes : (pixels_of row + 7) / 8 ≤ row.size
  pub memory : row.size * row.pages ≤ 65536

-- the sizes follow from a test that is computed for a literal row
roomy : (row : ModeRow) → (nat_lt 0 row.columns && (nat_le row.columns 80 && (nat_lt 0 row.height && (nat_le row.height 16 && (nat_lt row.last_row 255
    && (nat_le row.pages 8 && (nat_lt 0 row.size && (nat_le ((pixels_of row + 7) / 8) row.size && nat_le (row.size * row.pages) 65536)))))))) ≡ true →
    HasRoom row
roomy row e = record {
  some_columns = grind (arith, nat_tests);
  narrow = grind (arith, nat_tests);
  some_lines = grind (arith, nat_tests);
  short = grind (arith, nat_tests);
  low = grind (arith, nat_tests);
  few = grind (arith, nat_tests);
  some = grind (arith, nat_tests);
  bytes = grind (arith, nat_tests);
  memory = grind (arith, nat_tests);
}

-- the size of its picture
pub record IsPictured (mode : ℕ) (row : ModeRow) (m : Raster) : Type 0 where
  pub dots : m.dots ≡ 8
  pub line : all_dots_of_line m ≡ dots_a_line mode
  pub lines : m.lines ≡ lines_a_frame mode
  pub wide : shown_dots_of_line m ≡ pixel_width mode * (8 * row.columns)
  pub high : m.height ≡ pixel_height mode * (row.height * (row.last_row + 1))

-- where the dots of a frame come from: the counter at character x of line v of a page, and the
-- pixel at dot i of it
pub record HasPlaces (mode : ℕ) (row : ModeRow) (m : Raster) : Type 0 where
  pub counter : (page v x : ℕ) → page < row.pages → v < m.height → x < m.columns → ((beam_at_place_of_regular_frame row.crtc (row.size * page) 0 v 0 0).base + x) % 65536
      ≡ row.size * page + (m.columns * (v / pixel_height mode) + x)
  pub pixel : (v x i : ℕ) → v < m.height → x < m.columns → i < 8 → 8 * row.columns * (v / pixel_height mode) + (x * 8 + i) / pixel_width mode < pixels_of row

-- a graphics row of this mode, with all of this and the numbers of its frames
pub record IsGraphicsRow (mode : ℕ) (row : ModeRow) : Type 0 where
  pub raster : Raster
  pub frame : IsFrame raster row
  pub set : IsSet mode row
  pub listed : IsListed mode row
  pub open listed use *
  pub room : HasRoom row
  pub picture : IsPictured mode row raster
  pub places : HasPlaces mode row raster

-- for sixteen colours: its kind, its memory at rest, and a counter that is the offset of a byte in
-- each plane
pub record HasPlanes (mode : ℕ) (row : ModeRow) (m : Raster) : Type 0 where
  pub kind : kind_of mode ≡ Planar
  pub packed : is_mode_of_256_colours mode ≡ false
  pub base : page_0_address_of_mode mode ≡ 0xA0000
  pub enabled : is_set row.misc 1 ≡ true
  pub setting : setting_of row ≡ drawing row.misc (slice_index row.sequencer 1) at_rest
  pub columns : m.columns ≡ row.columns
  pub fetch : (n : ℕ) → fetch_address row.crtc n ≡ n

-- a row of sixteen colours
pub record IsPlanarRow (mode : ℕ) (row : ModeRow) : Type 0 where
  pub graphics : IsGraphicsRow mode row
  pub planes : HasPlanes mode row graphics.raster
  pub shades : HasShades row

-- the row of 256 colours; there is only one
pub record IsPackedRow (mode : ℕ) (row : ModeRow) : Type 0 where
  pub number : mode ≡ 0x13
  pub literal : bytes_320_by_200 ≡ row
  pub graphics : IsGraphicsRow mode row
  pub columns : graphics.raster.columns ≡ 80
  pub height : graphics.raster.height ≡ 400

-- ---- what follows for pages

module _ (row : ModeRow) (is : HasRoom row) where
  -- pages lie within memory
  pub page_ends : (page : ℕ) → page < row.pages → row.size * page + row.size ≤ 65536
  page_ends page l = let a = ends_before row.size page row.pages l in let b = is.memory in omega arith

  pub page_begins : (page : ℕ) → page < row.pages → row.size * page < 65536
  page_begins page l = let a = page_ends page l in let b = is.some in omega arith

  -- a page has room for its pixels, eight to a byte
  pub page_room : (k : ℕ) → k < pixels_of row → k / 8 < row.size
  page_room k l = let a = is.bytes in omega arith

-- ---- the rows

-- what a literal row is computed through: register fields, the cycles of a mode set, and the test
row_registers : Unit {0}
unfolding
    horizontal_total horizontal_display_end vertical_total vertical_display_end byte_panning line_compare preset_row_scan maximum_scan_line
    is_double_scan offset write_registers_plan write_registers_from_0 write_attribute_registers port_of crtc_port_of out_reached inp_reached after_crtc is_protected overflow shows
row_registers = tt

pub graphics_0d : IsGraphicsRow 0x0D planes_320_by_200
unfolding row_registers
graphics_0d = record {
  raster = record { dots = 8; columns = 40; height = 400; characters = 50; lines = 449 };
  frame = computed_frame _ _ refl;
  set = record { table = refl; literal = λ _. refl };
  listed = record { there = λ _. refl; text = refl; whole = λ e. absurd (cc); port = refl; steady = (refl, refl); blinks = (refl, refl); fresh = λ _ _. refl };
  room = roomy _ refl;
  picture = record { dots = refl; line = refl; lines = refl; wide = refl; high = refl };
  places = record { counter = λ page v x lp lv lx. omega arith; pixel = λ v x i lv lx li. omega arith };
}

pub planar_0d : IsPlanarRow 0x0D planes_320_by_200
unfolding graphics_0d fetch_address is_double_word is_byte_mode
planar_0d = record {
  graphics = graphics_0d;
  planes = record { kind = refl; packed = refl; base = refl; enabled = refl; setting = refl; columns = refl; fetch = λ _. refl };
  shades = record { on = refl; many = refl; wide = refl; planes = refl; select = refl };
}

pub graphics_10 : IsGraphicsRow 0x10 planes_640_by_350
unfolding row_registers
graphics_10 = record {
  raster = record { dots = 8; columns = 80; height = 350; characters = 100; lines = 449 };
  frame = computed_frame _ _ refl;
  set = record { table = refl; literal = λ _. refl };
  listed = record { there = λ _. refl; text = refl; whole = λ e. absurd (cc); port = refl; steady = (refl, refl); blinks = (refl, refl); fresh = λ _ _. refl };
  room = roomy _ refl;
  picture = record { dots = refl; line = refl; lines = refl; wide = refl; high = refl };
  places = record { counter = λ page v x lp lv lx. omega arith; pixel = λ v x i lv lx li. omega arith };
}

pub planar_10 : IsPlanarRow 0x10 planes_640_by_350
unfolding graphics_10 fetch_address is_double_word is_byte_mode
planar_10 = record {
  graphics = graphics_10;
  planes = record { kind = refl; packed = refl; base = refl; enabled = refl; setting = refl; columns = refl; fetch = λ _. refl };
  shades = record { on = refl; many = refl; wide = refl; planes = refl; select = refl };
}

pub graphics_12 : IsGraphicsRow 0x12 planes_640_by_480
unfolding row_registers
graphics_12 = record {
  raster = record { dots = 8; columns = 80; height = 480; characters = 100; lines = 525 };
  frame = computed_frame _ _ refl;
  set = record { table = refl; literal = λ _. refl };
  listed = record { there = λ _. refl; text = refl; whole = λ e. absurd (cc); port = refl; steady = (refl, refl); blinks = (refl, refl); fresh = λ _ _. refl };
  room = roomy _ refl;
  picture = record { dots = refl; line = refl; lines = refl; wide = refl; high = refl };
  places = record { counter = λ page v x lp lv lx. omega arith; pixel = λ v x i lv lx li. omega arith };
}

pub planar_12 : IsPlanarRow 0x12 planes_640_by_480
unfolding graphics_12 fetch_address is_double_word is_byte_mode
planar_12 = record {
  graphics = graphics_12;
  planes = record { kind = refl; packed = refl; base = refl; enabled = refl; setting = refl; columns = refl; fetch = λ _. refl };
  shades = record { on = refl; many = refl; wide = refl; planes = refl; select = refl };
}

pub graphics_13 : IsGraphicsRow 0x13 bytes_320_by_200
unfolding row_registers
graphics_13 = record {
  raster = record { dots = 8; columns = 80; height = 400; characters = 100; lines = 449 };
  frame = computed_frame _ _ refl;
  set = record { table = refl; literal = λ _. refl };
  listed = record { there = λ _. refl; text = refl; whole = λ _. omega arith; port = refl; steady = (refl, refl); blinks = (refl, refl); fresh = λ _ _. refl };
  room = roomy _ refl;
  picture = record { dots = refl; line = refl; lines = refl; wide = refl; high = refl };
  places = record { counter = λ page v x lp lv lx. omega arith; pixel = λ v x i lv lx li. omega arith };
}

pub packed_13 : IsPackedRow 0x13 bytes_320_by_200
unfolding graphics_13
packed_13 = record { number = refl; literal = refl; graphics = graphics_13; columns = refl; height = refl }

pub fetch_many : (n : ℕ) → n < 16384 → fetch_address bytes_320_by_200.crtc n ≡ 4 * n
unfolding fetch_address is_double_word
fetch_many n l = omega arith
