-- What dots keep of a shown screen, and what services keep of its frames.
use Rattle.std.proofs.Common.{◌≡◌, ℕ, ◌*◌, ◌/◌, refl, sym, ap, ◌∙◌, List, Some}
use Rattle.std.specs.Prelude.{if◌then◌else◌, slice_index}
use Rattle.bios_screen.proofs.Prelude.{is_set, Beam, CardState, ModeRow, mode_row_at_height, BiosData, is_text, start_address, Screen, crtc_registers, shown}
use Rattle.vga_crtc.specs.Fields.{horizontal_total, maximum_scan_line, is_double_scan, offset}
use Rattle.vga_crtc.specs.Raster.{beam_at_dot_of_frame}
use Rattle.vga_card.specs.Picture.{Dot}
use Rattle.vga_card.specs.Dots.{character_width}
use Rattle.bios_screen.specs.Screen.{Layout}
use Rattle.bios_screen.specs.Shown.{cursor_location_shown}
use Rattle.bios_screen.proofs.Base.Tests.{some_same}
use Rattle.bios_screen.proofs.Base.Setting.{Setting}
use Rattle.bios_screen.proofs.Shows.Screens.{data_is, setting_by, mode_of_shown}
use Rattle.bios_screen.proofs.Shows.Any.{any_is, any_shown}

-- another beam, and other drawn dots, show the same screen with the beam's frame number
pub shown_moved : (c : CardState) (d : BiosData) (s : Screen) (b : Beam) (l : List Dot) → shown c d ≡ Some s
    → shown (record c { crtc = record c.crtc { beam = b }; drawn = l }) d ≡ Some (record s { frame = b.frame })
shown_moved c d s b l e =
    let x = any_is c d s e in
    any_shown c (record c { crtc = record c.crtc { beam = b }; drawn = l }) d x.is refl refl x.is.tests.attribute
    ∙ ap (λ (y : Screen). Some (record y { frame = b.frame })) x.screen

-- the frame number of a shown screen is the beam's
pub frame_shown : (c : CardState) (d : BiosData) (s : Screen) → shown c d ≡ Some s → s.frame ≡ c.crtc.beam.frame
frame_shown c d s e = let x = any_is c d s e in sym (ap (λ (y : Screen). y.frame) x.screen)

-- ---- what services keep

-- the beam depends on the mode's registers, not on cursor and start address
beam_of_row : (w : ℕ) (row : ModeRow) (type start location a f n : ℕ) → beam_at_dot_of_frame w (crtc_registers row type start location) a f n ≡ beam_at_dot_of_frame w row.crtc a f n
unfolding horizontal_total maximum_scan_line is_double_scan offset
beam_of_row w row type start location a f n = refl

-- the width of a character of a mode, in dots
abbrev row_width : ModeRow → ℕ
row_width row = if is_set (slice_index row.sequencer 1) 0 then 8 else 9

-- the row of a shown screen's mode gives the beam of a frame and the start of each page
record HasRow (c : CardState) (d : BiosData) (s : Screen) : Type 0 where
  row : ModeRow
  mode : mode_row_at_height s.mode s.layout.height ≡ Some row
  beam : (a f n : ℕ) → beam_at_dot_of_frame (character_width c) c.crtc.registers a f n ≡ beam_at_dot_of_frame (row_width row) row.crtc a f n
  begins : (g : ℕ) → start_address d g ≡ (if is_text s.mode then row.size * g / 2 else row.size * g)

height_of_shown : (c : CardState) (d : BiosData) (s : Screen) → shown c d ≡ Some s → s.layout.height ≡ d.height
height_of_shown c d s e = sym (ap (λ (x : Screen). x.layout.height) (any_is c d s e).screen)

row_shown : (c : CardState) (d : BiosData) (s : Screen) → shown c d ≡ Some s → HasRow c d s
row_shown c d s e =
    let h = (any_is c d s e).is in
    let is = (mode_of_shown c d s e).is in
    record {
      row = h.row;
      mode = ap (λ n. mode_row_at_height s.mode n) (height_of_shown c d s e) ∙ ap (λ m. mode_row_at_height m d.height) is ∙ h.mode;
      beam = λ a f n.
          ap (λ (q : Setting). beam_at_dot_of_frame (if is_set (slice_index q.seq 1) 0 then 8 else 9) c.crtc.registers a f n) (setting_by h.row c h.tests.memory)
          ∙ ap (λ r. beam_at_dot_of_frame (row_width h.row) r a f n) h.tests.crtc
          ∙ beam_of_row (row_width h.row) h.row d.cursor_type (start_address d d.page) (cursor_location_shown d c.crtc.registers) a f n;
      begins = λ g.
          ap (λ n. if is_text d.mode then n * g / 2 else n * g) (data_is h.row d h.tests.data_test).size
          ∙ sym (ap (λ m. if is_text m then h.row.size * g / 2 else h.row.size * g) is);
    }

-- the frames of two states are the same, and each page begins at the same address
pub record SameFrames (c : CardState) (d : BiosData) (y : CardState) (after : BiosData) : Type 0 where
  pub beam : (a f n : ℕ) → beam_at_dot_of_frame (character_width c) c.crtc.registers a f n ≡ beam_at_dot_of_frame (character_width y) y.crtc.registers a f n
  pub begins : (g : ℕ) → start_address d g ≡ start_address after g

pub same_frames : (c : CardState) (d : BiosData) (s : Screen) (y : CardState) (after : BiosData) (t : Screen) → shown c d ≡ Some s → shown y after ≡ Some t →
    t.mode ≡ s.mode → t.layout ≡ s.layout → SameFrames c d y after
same_frames c d s y after t e g m l =
    let old = row_shown c d s e in
    let new = row_shown y after t g in
    let row : old.row ≡ new.row = some_same old.row new.row (sym old.mode ∙ ap (λ k. mode_row_at_height k s.layout.height) (sym m)
    ∙ ap (λ (k : Layout). mode_row_at_height t.mode k.height) (sym l) ∙ new.mode) in
    record {
      beam = λ a f n. old.beam a f n ∙ ap (λ (r : ModeRow). beam_at_dot_of_frame (row_width r) r.crtc a f n) row ∙ sym (new.beam a f n);
      begins = λ p.
          old.begins p
          ∙ ap (λ (r : ModeRow). if is_text s.mode then r.size * p / 2 else r.size * p) row
          ∙ ap (λ k. if is_text k then new.row.size * p / 2 else new.row.size * p) (sym m)
          ∙ sym (new.begins p);
    }
