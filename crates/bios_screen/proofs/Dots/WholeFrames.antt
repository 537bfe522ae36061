-- Frames of a plain screen: their ends and their pictures.
use Rattle.std.proofs.Common.{◌≡◌, ℕ, zero, suc, ◌+◌, ◌-◌, ◌*◌, ◌<◌, refl, sym, ap, ◌∙◌, arith, List, [], ◌++◌}
use Rattle.std.specs.Prelude.{if◌then◌else◌}
use Rattle.std.proofs.lemmas.List.{append-nil, append_assoc}
use Rattle.std.proofs.Common.{zero-add, suc-add}
use Rattle.vga_card.specs.Picture.{bytes_of_dots}
use Rattle.vga_card.specs.Frames.{concatenated_dots}
use Rattle.bios_screen.specs.Screen.{Screen}
use Rattle.bios_screen.specs.Picture.{dot_colour_at, picture_width, picture_height, next_frame}
use Rattle.bios_screen.specs.Raster.{Raster, all_dots_of_line as dots_of_line, picture_dot, concatenated_lists, picture_bytes}
use Rattle.bios_screen.proofs.Base.DotLists.{bytes_joined, same_joined, whole_picture, picture_bytes_are, row_dots}
use Rattle.bios_screen.specs.Drawing.{dots_a_line, lines_a_frame, total_dots_of_frame_in_mode, Drawing, page_shown, picture_so_far, is_picture_dot, colour_of_frame_dot, take_dot, take_dots}
use Rattle.bios_screen.specs.Drawing.{take_frame}
use Rattle.bios_screen.specs.Whole.{PictureFitsFrame, FrameEndsAtDotZero, FrameIsWholePicture}
use Rattle.bios_screen.proofs.Dots.OneDot.{not_zero, is_zero, bytes_if, renewed, taken_on, taken_last, dots_on, taken_more}

pub taken_split : (a b : ℕ) (x : Drawing) → take_dots (a + b) x ≡ take_dots b (take_dots a x)
unfolding take_dots
taken_split zero b x = ap (λ n. take_dots n x) (zero-add b)
taken_split (suc a) b x = ap (λ n. take_dots n x) (suc-add a b) ∙ taken_split a b (take_dot x)

-- ---- from any dot

module _ (b : Drawing) where
  abbrev s : Screen
  s = b.screen

  abbrev n : ℕ
  n = b.dot

  abbrev g : ℕ
  g = page_shown b

  abbrev all : ℕ
  all = total_dots_of_frame_in_mode s.mode

  abbrev colours : ℕ → List ℕ
  colours i = colour_of_frame_dot s g (n + i)

  -- after k dots that do not end the frame
  record Collected (k : ℕ) : Type 0 where
    page : page_shown (take_dots k b) ≡ g
    picture : picture_so_far (take_dots k b) ≡ picture_so_far b ++ concatenated_lists colours k

  -- the next dot adds its colour
  joins : (k : ℕ) → n + k < all → Collected k → picture_so_far (take_dots k b) ++ colour_of_frame_dot (take_dots k b).screen (page_shown (take_dots k b)) (take_dots k b).dot
      ≡ picture_so_far b ++ concatenated_lists colours (suc k)
  unfolding concatenated_lists
  joins k l is =
      let x = take_dots k b in
      let on = dots_on k b l in
      ap (λ (t : Screen). picture_so_far x ++ colour_of_frame_dot t (page_shown x) x.dot) on.screen
      ∙ ap (λ p. picture_so_far x ++ colour_of_frame_dot s p x.dot) is.page
      ∙ ap (λ i. picture_so_far x ++ colour_of_frame_dot s g i) on.dot
      ∙ ap (λ l. l ++ colours k) is.picture
      ∙ append_assoc (picture_so_far b) (concatenated_lists colours k) (colours k)

  collected : (k : ℕ) → n + k < all → Collected k
  unfolding take_dots concatenated_lists
  collected zero l = record { page = refl; picture = sym (append-nil (picture_so_far b)) }
  collected (suc k) l =
      let x = take_dots k b in
      let on = dots_on k b (omega arith) in
      let is = collected k (omega arith) in
      let mode : total_dots_of_frame_in_mode x.screen.mode ≡ all = ap (λ (t : Screen). total_dots_of_frame_in_mode t.mode) on.screen in
      let at = on.dot in
      let next = taken_more k b ∙ taken_on x (omega arith) in
      record {
        page = ap page_shown next ∙ ap (λ v. if v then x.screen.page else page_shown x) (not_zero x.dot) ∙ is.page;
        picture = ap picture_so_far next
            ∙ ap (λ v. if v then [] else picture_so_far x ++ colour_of_frame_dot x.screen (page_shown x) x.dot) (not_zero x.dot)
            ∙ joins k (omega arith) is;
      }

  pub frame_taken : n < all → FrameEndsAtDotZero b
  frame_taken within =
      let k = all - n - 1 in
      let left : all - n ≡ suc k = omega arith in
      let x = take_dots k b in
      let on = dots_on k b (omega arith) in
      let mode : total_dots_of_frame_in_mode x.screen.mode ≡ all = ap (λ (t : Screen). total_dots_of_frame_in_mode t.mode) on.screen in
      let at = on.dot in
      let is : take_frame b ≡ renewed x = ap (λ j. take_dots j b) left ∙ taken_more k b ∙ taken_last x (omega arith) in
      record {
        dot = ap (λ (y : Drawing). y.dot) is;
        first = λ m some before zeroth. let there = (dots_on m b (omega arith)).dot in absurd (omega arith);
        screen = ap (λ (y : Drawing). y.screen) is ∙ ap next_frame on.screen;
        picture = ap (λ (y : Drawing). y.picture) is ∙ joins k (omega arith) (collected k (omega arith)) ∙ ap (λ j. picture_so_far b ++ concatenated_lists colours j) (sym left);
      }

-- ---- from dot 0 on

-- the numbers of a screen's frames, taking a character as one dot
abbrev raster_of : Screen → Raster
raster_of s = record { dots = 1; columns = picture_width s; height = picture_height s; characters = dots_a_line s.mode; lines = lines_a_frame s.mode }

once : (n : ℕ) → n * 1 ≡ n
once n = omega arith

dot_bytes : (s : Screen) (g n : ℕ) → bytes_of_dots (picture_dot (raster_of s) (dot_colour_at s g) n) ≡ colour_of_frame_dot s g n
dot_bytes s g n =
    rw (once (dots_a_line s.mode), once (picture_width s)) (bytes_if (is_picture_dot s n) _)

whole_colours : (s : Screen) (g : ℕ) → PictureFitsFrame s → concatenated_lists (colour_of_frame_dot s g) (total_dots_of_frame_in_mode s.mode)
    ≡ picture_bytes (picture_width s) (picture_height s) (dot_colour_at s g)
unfolding total_dots_of_frame_in_mode picture_bytes
whole_colours s g fits =
    let m = raster_of s in
    let f = dot_colour_at s g in
    let narrow = fits.narrow in
    let line = once (dots_a_line s.mode) in
    let w = once (picture_width s) in
    ap (λ l. concatenated_lists (colour_of_frame_dot s g) (lines_a_frame s.mode * l)) (sym line)
    ∙ sym (same_joined (λ i. bytes_of_dots (picture_dot m f i)) (colour_of_frame_dot s g) (lines_a_frame s.mode * dots_of_line m) (dot_bytes s g))
    ∙ sym (bytes_joined (picture_dot m f) (lines_a_frame s.mode * dots_of_line m))
    ∙ ap bytes_of_dots (whole_picture m f (omega arith) fits.low)
    ∙ ap (λ j. bytes_of_dots (concatenated_dots (row_dots f j) (picture_height s))) w
    ∙ picture_bytes_are f (picture_width s) (picture_height s)

pub whole_taken : (b : Drawing) → PictureFitsFrame b.screen → b.dot ≡ 0 → b.dot < total_dots_of_frame_in_mode b.screen.mode → FrameIsWholePicture b
whole_taken b fits e within =
    let s = b.screen in
    let test = is_zero b.dot e in
    let all = total_dots_of_frame_in_mode s.mode in
    let left : all - b.dot ≡ all = omega arith in
    (frame_taken b within).picture
    ∙ ap (λ v. (if v then [] else b.picture) ++ concatenated_lists (λ i. colour_of_frame_dot s (if v then s.page else b.page) (b.dot + i)) (all - b.dot)) test
    ∙ ap (concatenated_lists (λ i. colour_of_frame_dot s s.page (b.dot + i))) left
    ∙ same_joined (λ i. colour_of_frame_dot s s.page (b.dot + i)) (colour_of_frame_dot s s.page) all (λ i. let z : b.dot + i ≡ i = omega arith in ap (colour_of_frame_dot s s.page) z)
    ∙ whole_colours s s.page fits
