-- A clearing mode set to graphics: from any state to one that shows the fresh screen.
use Rattle.std.proofs.Common.{◌≡◌, ℕ, ◌+◌, ◌-◌, ◌*◌, ◌/◌, ◌%◌, ◌<◌, refl, sym, ap, ◌∙◌, arith, List, [], replicate, Some, false}
use Rattle.std.specs.Prelude.{slice_index, if◌then◌else◌}
use Rattle.std.specs.Int.{bit_at}
use Rattle.std.proofs.lemmas.Nat.Bits.{bit_at-zero}
use Rattle.vga_bits.specs.Bits.{byte_of_bits}
use Rattle.bios_screen.proofs.Prelude.{Four, bytes_at, IsCard, card_meaning, CardState, ModeRow, data_of_mode, bytes_320_by_200, Plan, run, put, Screen}
use Rattle.bios_screen.proofs.Prelude.{planar_pixel, pixel_of_256_colours, pixel_in, shown}
use Rattle.vga_bits.specs.Four.{four_by_plane}
use Rattle.vga_host.specs.Memory.Write.{written_bit, combined_bit}
use Rattle.bios_modes.specs.Kinds.{kind_of_row, is_text_kind}
use Rattle.bios_services.specs.ModeSet.{clear_graphics_memory_plan, write_text_memory_plan, write_mode_memory_plan, mode_set_plan}
use Rattle.bios_screen.specs.Screen.{Pixels, Palette}
use Rattle.bios_screen.specs.Shown.{pixels_in, pixel_pages, screen_with_contents}
use Rattle.bios_screen.specs.Fresh.{blank_pixels, fresh_text, fresh_pixels}
use Rattle.bios_screen.specs.AfterCall.{ModeSetShowsFreshScreen}
use Rattle.bios_screen.proofs.Base.Flat.{set_cell}
use Rattle.bios_screen.proofs.Base.Edits.{one_edit, changed_edit, edits}
use Rattle.bios_screen.proofs.Base.Lists.{blank_listing}
use Rattle.bios_screen.proofs.Base.Setting.{setting}
use Rattle.bios_screen.proofs.Modes.PixelModes.{IsGraphicsRow, IsPlanarRow, setting_of, pixels_of, page_ends, page_room}
use Rattle.bios_screen.proofs.Modes.Fresh.{palette_is, coloured, prepared, ShowsFresh, sets_fresh}
use Rattle.bios_screen.proofs.Shows.Screens.{all_tests_of}
use Rattle.bios_screen.proofs.Pixels.NewPixels.{redrawn}
use Rattle.bios_screen.proofs.Planar.Settings.{drawing, at_rest, stored, without_host, Loaded, put_draws}
use Rattle.bios_screen.proofs.Planar.Bits.{nibble_of}
use Rattle.bios_screen.proofs.Packed.Screens.{IsFlat, put_flat}

-- ---- what clearing leaves: all pixels are 0, and no register has changed

abbrev cleared : CardState → CardState
cleared c = (run card_meaning (clear_graphics_memory_plan 0x10000) c).0

record IsCleared (mode : ℕ) (row : ModeRow) (c y : CardState) : Type 0 where
  same : setting y ≡ setting c
  others : without_host y ≡ without_host c
  pixel : (p k : ℕ) → p < row.pages → k < pixels_of row → pixel_in mode y.host.memory (row.size * p) k ≡ 0

abbrev Clears : ℕ → ModeRow → Type 0
Clears mode row = (c : CardState) → IsCard c → setting c ≡ setting_of row → IsCleared mode row c (cleared c)

-- a Put of 0 stores 0 in all four planes
stored_zero : (misc clocking : ℕ) (q x : Four ℕ) → stored (drawing misc clocking at_rest) 0x0F 0 q x ≡ four_by_plane (λ _. 0)
unfolding byte_of_bits written_bit combined_bit
stored_zero misc clocking q x = refl

no_bits : (i : ℕ) → bit_at 0 i + 2 * bit_at 0 i + 4 * bit_at 0 i + 8 * bit_at 0 i ≡ 0
no_bits i = ap (λ b. b + 2 * b + 4 * b + 8 * b) (bit_at-zero i)

planes_clear : (mode : ℕ) (row : ModeRow) → IsPlanarRow mode row → Clears mode row
unfolding clear_graphics_memory_plan
planes_clear mode row is c z e =
    let rest = without_host c in
    let misc = row.misc in
    let clocking = slice_index row.sequencer 1 in
    let q = c.host.latches in
    let blank : Four ℕ → Four ℕ = stored (drawing misc clocking at_rest) 0x0F 0 q in
    let mode_is = e ∙ is.planes.setting in
    let done = edits CardState (Four ℕ) card_meaning (λ w. put (0xA0000 + w) 0) (λ _ y f. Loaded rest misc clocking at_rest y f q) 0 65536 (λ _. Unit {0})
    (λ w _. w) (λ w _ x. blank x) (λ i j _ _ lb lo hi same. absurd (omega arith))
    (λ w y f lb lw u. record {
      cells = set_cell f w (blank (f w));
      shown = put_draws rest misc clocking w 0 at_rest q y f is.planes.enabled u lw;
      fact = changed_edit w blank f;
    })
    65536 0 c (bytes_at c.host.memory) (omega arith) (omega arith) (record { mode = mode_is; bounds = z; cell = λ o. refl; others = refl; latch = refl }) in
    let f = (cleared c).host.memory in
    record {
      same = done.shown.mode ∙ sym mode_is;
      others = done.shown.others;
      pixel = λ p k lp lk.
          let o = row.size * p + k / 8 in
          let ends = page_ends row is.graphics.room p lp in
          let room = page_room row is.graphics.room k lk in
          ap (λ b. if b then pixel_of_256_colours f (row.size * p + k) else planar_pixel f (row.size * p) k) is.planes.packed
          ∙ ap (λ (x : Four ℕ). nibble_of x (k % 8)) (done.shown.cell o
          ∙ done.fact.inside (record { turn = o; from = omega arith; before = omega arith; place = tt })
          ∙ stored_zero misc clocking q (bytes_at c.host.memory o))
          ∙ no_bits (7 - k % 8);
    }

-- in 256 colours a Put of 0 clears the pixel at its address
bytes_clear : Clears 0x13 bytes_320_by_200
unfolding clear_graphics_memory_plan
bytes_clear c z e =
    let rest = without_host c in
    let done = edits CardState ℕ card_meaning (λ w. put (0xA0000 + w) 0) (λ _. IsFlat rest) 0 65536 (λ _. Unit {0}) (λ w _. w) (λ w _ x. 0)
    (λ i j _ _ lb lo hi same. absurd (omega arith))
    (λ w y f lb lw u. record { cells = set_cell f w 0; shown = put_flat rest w 0 y f lw (omega arith) u; fact = one_edit w 0 f })
    65536 0 c (pixel_of_256_colours c.host.memory) (omega arith) (omega arith) (record { mode = e; bounds = z; cell = λ k. refl; others = refl }) in
    record {
      same = done.shown.mode ∙ sym e;
      others = done.shown.others;
      pixel = λ p k lp lk.
          let n = 0xFA00 * p + k in
          done.shown.cell n ∙ done.fact.inside (record { turn = n; from = omega arith; before = omega arith; place = tt });
    }

-- ---- one mode

pages_blank : (mode : ℕ) (row : ModeRow) (c y : CardState) → IsCleared mode row c y →
    pixel_pages mode y.host.memory row.size (pixels_of row) row.pages ≡ replicate row.pages (blank_pixels (pixels_of row))
unfolding pixel_pages pixels_in blank_pixels
pages_blank mode row c y t =
    let n = pixels_of row in
    let f = y.host.memory in
    blank_listing (λ p. pixels_in mode f (row.size * p) n) (replicate n 0) 0 row.pages (λ p lp.
    let y : 0 + p ≡ p = omega arith in
    ap (λ i. pixels_in mode f (row.size * i) n) y
    ∙ blank_listing (pixel_in mode f (row.size * p)) 0 0 n (λ q lq.
    let x : 0 + q ≡ q = omega arith in
    ap (pixel_in mode f (row.size * p)) x ∙ t.pixel p q lp lq))

memory_is : (mode : ℕ) (row : ModeRow) (font : List ℕ) → IsGraphicsRow mode row → write_mode_memory_plan row false font ≡ clear_graphics_memory_plan 0x10000
unfolding write_mode_memory_plan
memory_is mode row font is = ap (λ b. let p : Plan (Unit {0}) = (if b then write_text_memory_plan row false font else clear_graphics_memory_plan 0x10000) in p)
    (ap (λ r. is_text_kind (kind_of_row r)) (sym is.set.table) ∙ is.text)

shows_fresh : (mode : ℕ) (row : ModeRow) → IsGraphicsRow mode row → Clears mode row → ShowsFresh mode row
unfolding mode_set_plan
shows_fresh mode row is clears c fonts z small =
    let font = fonts.f16 in
    let d = data_of_mode mode row in
    let first = prepared mode row c is.set z in
    let y = coloured row c first.dac in
    let t = clears y first.bounds refl in
    let new = fresh_pixels mode row c.crtc.beam.frame in
    let text = fresh_text mode row font c.crtc.beam.frame in
    ap (λ x. shown x d) (first.runs (write_mode_memory_plan row false font) ∙ ap (λ p. (run card_meaning p y).0) (memory_is mode row font is))
    ∙ redrawn row y (cleared y) d (is.there row.height) is.text (all_tests_of row y d (is.fresh c first.dac)) t.same t.others
    ∙ ap (λ p. Some (screen_with_contents row y d 0 (Pixels p) [])) (pages_blank mode row y (cleared y) t)
    ∙ ap (λ (p : Palette). let x : Screen = record new { palette = p } in Some x) (palette_is row c first.dac first.colours)
    ∙ sym (ap (λ b. let x : Screen = (if b then text else new) in Some x) is.text)

pub planar_set_fresh : (mode : ℕ) (row : ModeRow) → IsPlanarRow mode row → ModeSetShowsFreshScreen mode row
planar_set_fresh mode row is = sets_fresh mode row is.graphics.set (shows_fresh mode row is.graphics (planes_clear mode row is))

pub packed_set_fresh : IsGraphicsRow 0x13 bytes_320_by_200 → ModeSetShowsFreshScreen 0x13 bytes_320_by_200
packed_set_fresh is = sets_fresh 0x13 bytes_320_by_200 is.set (shows_fresh 0x13 bytes_320_by_200 is bytes_clear)
