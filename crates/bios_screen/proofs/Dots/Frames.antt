-- The frames of a shown screen, from the numbers of its row: where they begin, and where each dot
-- comes from.
use Rattle.std.proofs.Common.{◌≡◌, ℕ, ◌+◌, ◌-◌, ◌%◌, ◌<◌, sym, ap, subst, ◌∙◌, arith, false}
use Rattle.std.specs.Prelude.{◌&&◌, if◌then◌else◌, slice_index}
use Rattle.bios_screen.proofs.Prelude.{is_set, Beam, CrtcState, first_counter, beam_at_place_of_regular_frame, IsCard, CardState, ModeRow, BiosData, start_address, Raster}
use Rattle.vga_host.specs.Sequencer.{character_width as host_width}
use Rattle.vga_crtc.specs.Raster.{IsRegularFrameWithoutSplit}
use Rattle.vga_attr.specs.Fields.{is_panning_reset, panning}
use Rattle.vga_dots.specs.declared.source_dot.SourceDot.{SourceDot}
use Rattle.vga_dots.specs.SourceDot.{panning_shift, counter_of_character, source_dot_of_number, source_dot, fetch_address}
use Rattle.bios_screen.specs.Shown.{cursor_location_shown}
use Rattle.bios_screen.specs.Raster.{HasRaster}
use Rattle.bios_screen.proofs.Base.Tests.{lt_test}
use Rattle.bios_screen.proofs.Base.Setting.{Setting, setting}
use Rattle.bios_screen.proofs.Modes.Frames.{numbers_of, panned_by, IsFrame, numbers_stay, regular_stays, beam_stays, fetch_stays, begins_with}
use Rattle.bios_screen.proofs.Shows.Screens.{AllTests, setting_by}
use Rattle.bios_screen.proofs.Dots.Colours.{attribute_is}

module _ (m : Raster) (row : ModeRow) (f : IsFrame m row) (c : CardState) (d : BiosData) (t : AllTests row c d) where
  abbrev start : ℕ
  start = start_address d d.page

  abbrev location : ℕ
  location = cursor_location_shown d c.crtc.registers

  set : setting c ≡ record { misc = row.misc; seq = row.sequencer; gfx = row.graphics }
  set = setting_by row c t.memory

  pub has_raster : HasRaster m c
  has_raster = record {
    raster = f.raster;
    regular = subst IsRegularFrameWithoutSplit (sym t.crtc) (regular_stays row d.cursor_type start location f.regular);
    numbers =
        ap (λ (s : Setting). numbers_of (if is_set (slice_index s.seq 1) 0 then 8 else 9) c.crtc.registers) set
        ∙ ap (λ w. numbers_of w c.crtc.registers) f.clock
        ∙ ap (numbers_of m.dots) t.crtc
        ∙ numbers_stay row d.cursor_type start location m.dots
        ∙ f.numbers;
  }

  -- a frame begins at the start address
  pub first_is : start < 65536 → first_counter c.crtc.registers ≡ start
  first_is small = ap first_counter t.crtc ∙ begins_with row d.cursor_type start location f.whole small

  -- the beam at a dot of a frame, and the memory address of a counter, are the row's
  pub beam_is : (a frame v x k : ℕ) → beam_at_place_of_regular_frame c.crtc.registers a frame v x k ≡ beam_at_place_of_regular_frame row.crtc a frame v x k
  beam_is a frame v x k = ap (λ r. beam_at_place_of_regular_frame r a frame v x k) t.crtc ∙ beam_stays row d.cursor_type start location a frame v x k

  pub fetch_is : (n : ℕ) → fetch_address c.crtc.registers n ≡ fetch_address row.crtc n
  fetch_is n = ap (λ r. fetch_address r n) t.crtc ∙ fetch_stays row d.cursor_type start location n

  -- panning shifts no dot
  panned_is : IsCard c → (b : Beam) → b.split ≡ false → panning_shift c.host (record c.crtc { beam = b }) c.attr ≡ 0
  unfolding panning_shift
  panned_is z b unsplit =
      let p = panning c.attr in
      ap (λ w. if w && is_panning_reset c.attr then 0 else panned_by c.host.seq c.host.gfx p) unsplit
      ∙ ap (λ (s : Setting). panned_by s.seq s.gfx p) set
      ∙ ap (panned_by row.sequencer row.graphics) (attribute_is row c.attr z.attr f.attributes t.attribute).panning
      ∙ f.still

  -- so a dot comes from the counter of the beam's character
  pub source_is : IsCard c → (b : Beam) → b.split ≡ false → b.dot < m.dots → source_dot c.host (record c.crtc { beam = b }) c.attr
      ≡ record { counter = (b.base + b.character) % 65536; dot = b.dot }
  unfolding source_dot
  source_is z b unsplit l =
      let at : CrtcState = record c.crtc { beam = b } in
      let none : b.dot + 0 ≡ b.dot = omega arith in
      ap (λ p. source_dot_of_number at (host_width c.host) (b.dot + p)) (panned_is z b unsplit)
      ∙ ap (source_dot_of_number at (host_width c.host)) none
      ∙ ap (λ (s : Setting). source_dot_of_number at (if is_set (slice_index s.seq 1) 0 then 8 else 9) b.dot) set
      ∙ ap (λ w. source_dot_of_number at w b.dot) f.clock
      ∙ ap (λ w. if w then (let q : SourceDot = record { counter = counter_of_character at b.character; dot = b.dot } in q)
      else record { counter = counter_of_character at (b.character + 1); dot = b.dot - m.dots }) (lt_test b.dot m.dots l)
