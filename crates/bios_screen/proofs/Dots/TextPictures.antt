-- Where the frames of a text screen begin, and which colours their dots have.
use Rattle.std.proofs.Common.{◌≡◌, ℕ, ◌+◌, ◌*◌, ◌/◌, ◌%◌, ◌<◌, sym, ap, ◌∙◌, arith}
use Rattle.std.specs.Prelude.{if◌then◌else◌}
use Rattle.std.proofs.lemmas.Nat.{div-mul-add, mod-mul-add}
use Rattle.bios_screen.proofs.Prelude.{Beam, first_counter, IsCard, CardState, BiosData, start_address, Screen, colour_by_palette, DrawsDotColours}
use Rattle.vga_dots.specs.Colour.{dot_colour}
use Rattle.bios_screen.specs.Screen.{page_start}
use Rattle.bios_screen.specs.Picture.{nibble, text_dot_colour, pixel_dot_colour, dot_colour_at}
use Rattle.bios_screen.proofs.Base.Places.{half_start, ends_before}
use Rattle.bios_screen.proofs.Shows.Screens.{IsShown, screen_shown, all_of}
use Rattle.bios_screen.proofs.Dots.Frames as frames
use Rattle.bios_screen.proofs.Dots.TextRows.{text_raster, frame_of}
use Rattle.bios_screen.proofs.Dots.TextDots.{beam_is, place_is}

module _ (c : CardState) (d : BiosData) (h : IsShown c d) (z : IsCard c) where
  abbrev s : Screen
  s = screen_shown c d h

  abbrev half : ℕ
  half = h.text.half

  page_begins : (g : ℕ) → page_start s g ≡ half * g
  page_begins g = let e = h.has.size ∙ h.text.even in let f : d.size / 2 ≡ half = omega arith in ap (λ n. n * g) f

  pub start_is : (g : ℕ) → start_address d g ≡ half * g
  start_is g =
      ap (λ b. if b then d.size * g / 2 else d.size * g) h.tests.is_text
      ∙ half_start d.size half g (h.has.size ∙ h.text.even)

  start_small : half * d.page < 65536
  start_small = let a = ends_before half d.page h.row.pages h.has.page in let m = h.text.memory in omega arith

  pub first_is : first_counter c.crtc.registers ≡ start_address d d.page
  first_is = frames.first_is (text_raster h.row) h.row (frame_of c d h).frame c d (all_of h.row c d h.tests)
      (let e = start_is d.page in let l = start_small in omega arith)

  -- a frame of page g draws the colours of the screen
  pub draws : (g : ℕ) → g < h.row.pages → DrawsDotColours (text_raster h.row) c (half * g) (dot_colour_at s g)
  unfolding text_dot_colour
  draws g lg v x k lv lx lk =
      ap (λ (b : Beam). dot_colour c.host (record c.crtc { beam = b }) c.attr c.dac) (beam_is c d h z g lg v x k lv)
      ∙ place_is c d h z g lg v x k lv lx lk
      ∙ sym (ap (λ n. colour_by_palette s.palette (nibble s (n + (d.columns * (v / d.height) + (x * 9 + k) / 9)) (v % d.height) ((x * 9 + k) % 9))) (page_begins g)
      ∙ ap (λ n. colour_by_palette s.palette (nibble s (half * g + (n * (v / d.height) + (x * 9 + k) / 9)) (v % d.height) ((x * 9 + k) % 9))) h.has.columns
      ∙ ap (λ n. colour_by_palette s.palette (nibble s (half * g + (h.row.columns * (v / n) + (x * 9 + k) / 9)) (v % n) ((x * 9 + k) % 9))) h.has.height
      ∙ ap (λ a. colour_by_palette s.palette (nibble s (half * g + (h.row.columns * (v / h.row.height) + a)) (v % h.row.height) ((x * 9 + k) % 9))) (div-mul-add x 9 k lk)
      ∙ ap (λ i. colour_by_palette s.palette (nibble s (half * g + (h.row.columns * (v / h.row.height) + x)) (v % h.row.height) i)) (mod-mul-add x 9 k lk))
      ∙ sym (ap (λ b. if b then text_dot_colour s g (x * 9 + k) v else pixel_dot_colour s g (x * 9 + k) v) h.tests.is_text)
