-- Services between dots: the adapter still follows the plain screen.
use Rattle.std.proofs.Common.{◌≡◌, ◌≢◌, ℕ, zero, suc, ◌<◌, ◌/◌, inl, inr, refl, sym, ap, subst, ◌∙◌, Bool, true, false, List, [], ◌∷◌, ◌++◌, length, Option}
use Rattle.std.proofs.Common.{Some, None}
use Rattle.std.specs.Prelude.{◌==◌, ◌*◌, if◌then◌else◌}
use Rattle.std.proofs.Common.{arith}
use Rattle.std.proofs.lemmas.Nat.{mul-le}
use Rattle.bios_screen.proofs.Prelude.{Beam, IsCard, CardState, Refusal, BiosData, FontSet, start_address, Screen, shown}
use Rattle.vga_crtc.specs.Beam.{is_first_dot_of_frame}
use Rattle.vga_crtc.specs.Raster.{IsFrameStart, beam_at_dot_of_frame}
use Rattle.vga_crtc.proofs.Moves.{first_dot_starts}
use Rattle.vga_card.specs.Dots.{character_width, dots_of_frame_so_far, dots_unless_frame_start}
use Rattle.vga_card.specs.Picture.{lines_of_dots, bytes_of_dots}
use Rattle.bios_services.specs.declared.glyph_load.GlyphLoad.{GlyphLoad}
use Rattle.bios_screen.specs.Loaded.{load_refusal_on, load_glyphs}
use Rattle.bios_screen.specs.Called.{screen_unless_refused}
use Rattle.bios_screen.specs.Screen.{Layout}
use Rattle.bios_screen.specs.Raster.{dots_of_frame}
use Rattle.bios_screen.specs.Drawing.{Drawing, total_dots_of_frame_in_mode, is_picture_dot, dots_a_line, MayLoadGlyphs}
use Rattle.bios_screen.specs.Follows.{BeamIsAtDotOfFrameFromAddress, lines_of_picture_dots_before, CardFollowsDrawing}
use Rattle.bios_screen.proofs.Dots.Any.{HasFrames, frames_of}
use Rattle.bios_screen.proofs.Shows.Steady.{same_frames}
use Rattle.bios_screen.proofs.Shows.CutAlike.{IsCutAs, uncut}
use Rattle.bios_screen.proofs.Dots.OneDot.{not_zero, is_zero, all_is}

-- whether dot n belongs to the picture depends only on the mode and the layout
picture_kept : (s t : Screen) → IsCutAs s t → (n : ℕ) → is_picture_dot t n ≡ is_picture_dot s n
picture_kept s t same n =
    ap (λ m. is_picture_dot (record t { mode = m }) n) same.mode
    ∙ ap (λ l. is_picture_dot (record s { layout = l }) n) same.layout

lines_kept : (s t : Screen) → IsCutAs s t → (n : ℕ) → lines_of_picture_dots_before t n ≡ lines_of_picture_dots_before s n
unfolding lines_of_picture_dots_before
lines_kept s t same zero = refl
lines_kept s t same (suc n) =
    ap (λ l. l ++ (if is_picture_dot t n then n / dots_a_line t.mode ∷ [] else [])) (lines_kept s t same n)
    ∙ ap (λ v. lines_of_picture_dots_before s n ++ (if v then n / dots_a_line t.mode ∷ [] else [])) (picture_kept s t same n)
    ∙ ap (λ m. lines_of_picture_dots_before s n ++ (if is_picture_dot s n then n / dots_a_line m ∷ [] else [])) same.mode

-- if the frames are the same, an unchanged beam is at the same dot
at_kept : (c y : CardState) (start n : ℕ) → ((a f k : ℕ) → beam_at_dot_of_frame (character_width c) c.crtc.registers a f k
    ≡ beam_at_dot_of_frame (character_width y) y.crtc.registers a f k)
    → y.crtc.beam ≡ c.crtc.beam → BeamIsAtDotOfFrameFromAddress c start n → BeamIsAtDotOfFrameFromAddress y start n
at_kept c y start zero same e at = subst IsFrameStart (sym e) at
at_kept c y start (suc n) same e at = e ∙ at ∙ same start c.crtc.beam.frame (suc n)
    ∙ ap (λ (b : Beam). beam_at_dot_of_frame (character_width y) y.crtc.registers start b.frame (suc n)) (sym e)

-- the adapter follows another screen of the same mode and layout; beam and drawn dots stay
pub screen_follows : (c y : CardState) (d after : BiosData) (b : Drawing) (t : Screen) → CardFollowsDrawing c d b → IsCard y → shown y after ≡ Some t →
    y.crtc.beam ≡ c.crtc.beam → y.drawn ≡ c.drawn → IsCutAs b.screen t
    → CardFollowsDrawing y after (record b { screen = t })
screen_follows c y d after b t is z shows beam drawn same =
    let fresh_same : dots_of_frame_so_far y ≡ dots_of_frame_so_far c = ap (λ (x : Beam). dots_unless_frame_start x y.drawn) beam ∙ ap (dots_unless_frame_start c.crtc.beam) drawn in
    record {
      shows = shows;
      within = subst (λ m. b.dot < total_dots_of_frame_in_mode m) (sym same.mode) is.within;
      page = page_by (b.dot == 0) refl;
      at = at_by b.dot refl;
      lines = ap lines_of_dots fresh_same ∙ is.lines ∙ sym (lines_kept b.screen t same b.dot);
      bytes = ap bytes_of_dots fresh_same ∙ is.bytes;
    }
  where
    page_by : (v : Bool) → (b.dot == 0) ≡ v → (if v then t.page else b.page) < t.layout.pages
    page_by true e = (frames_of y after t z shows).page
    page_by false e =
        let p : b.page < b.screen.layout.pages = subst (λ v. (if v then b.screen.page else b.page) < b.screen.layout.pages) e is.page in
        subst (λ (l : Layout). b.page < l.pages) (sym same.layout) p

    at_by : (n : ℕ) → b.dot ≡ n → BeamIsAtDotOfFrameFromAddress y (start_address after (if b.dot == 0 then t.page else b.page)) b.dot
    at_by zero e =
        let old : IsFrameStart c.crtc.beam = subst (λ n. BeamIsAtDotOfFrameFromAddress c (start_address d (if n == 0 then b.screen.page else b.page)) n) e is.at in
        subst (λ n. BeamIsAtDotOfFrameFromAddress y (start_address after (if n == 0 then t.page else b.page)) n) (sym e) (subst IsFrameStart (sym beam) old)
    at_by (suc m) e =
        let frames = same_frames c d b.screen y after t is.shows shows same.mode same.layout in
        let old : BeamIsAtDotOfFrameFromAddress c (start_address d b.page) (suc m) =
        subst (λ v. BeamIsAtDotOfFrameFromAddress c (start_address d (if v then b.screen.page else b.page)) (suc m)) (not_zero m)
        (subst (λ n. BeamIsAtDotOfFrameFromAddress c (start_address d (if n == 0 then b.screen.page else b.page)) n) e is.at) in
        let new : BeamIsAtDotOfFrameFromAddress y (start_address after b.page) (suc m) = subst (λ a. BeamIsAtDotOfFrameFromAddress y a (suc m)) (frames.begins b.page)
        (at_kept c y (start_address d b.page) (suc m) frames.beam beam old) in
        subst (λ n. BeamIsAtDotOfFrameFromAddress y (start_address after (if n == 0 then t.page else b.page)) n) (sym e)
        (subst (λ v. BeamIsAtDotOfFrameFromAddress y (start_address after (if v then t.page else b.page)) (suc m)) (sym (not_zero m)) new)

-- a frame has at least one dot
some_dots : (c : CardState) (d : BiosData) (s : Screen) → HasFrames c d s → 0 < total_dots_of_frame_in_mode s.mode
unfolding dots_of_frame
some_dots c d s h =
    let m = h.raster in
    let r = h.has.raster in
    let some_characters = r.some_columns in
    let narrow = r.narrow in
    let some_lines = r.some_lines in
    let low = r.low in
    let line = mul-le 1 1 m.characters m.dots (omega arith) r.some_dots in
    let all = mul-le 1 1 m.lines (m.characters * m.dots) (omega arith) (omega (arith, line)) in
    subst (λ n. 0 < n) (all_is c d s h) (omega (arith, all))

-- at the first dot of a frame, any shown screen is followed
pub starts : (c : CardState) (d : BiosData) (b : Drawing) → IsCard c → shown c d ≡ Some b.screen → b.dot ≡ 0 → (is_first_dot_of_frame c.crtc.beam ≡ true) →
    IsFrameStart c.crtc.beam → CardFollowsDrawing c d b
unfolding lines_of_picture_dots_before bytes_of_dots
starts c d b z shows e first start =
    let h = frames_of c d b.screen z shows in
    let test = is_zero b.dot e in
    let none : dots_of_frame_so_far c ≡ [] = ap (λ v. if v then [] else c.drawn) first in
    record {
      shows = shows;
      within = subst (λ n. n < total_dots_of_frame_in_mode b.screen.mode) (sym e) (some_dots c d b.screen h);
      page = subst (λ v. (if v then b.screen.page else b.page) < b.screen.layout.pages) (sym test) h.page;
      at = subst (λ n. BeamIsAtDotOfFrameFromAddress c (start_address d (if n == 0 then b.screen.page else b.page)) n) (sym e) start;
      lines = ap lines_of_dots none ∙ sym (ap (lines_of_picture_dots_before b.screen) e);
      bytes = ap bytes_of_dots none ∙ sym (ap (λ v. if v then [] else b.picture) test);
    }

-- ---- a load of glyphs

-- the same, with one premise less
pub begins : (c : CardState) (d : BiosData) (b : Drawing) → IsCard c → shown c d ≡ Some b.screen → b.dot ≡ 0 → IsFrameStart c.crtc.beam → CardFollowsDrawing c d b
begins c d b z shows e start = starts c d b z shows e ((first_dot_starts c.crtc.beam).1 start) start

-- if the drawing is at dot 0, the beam is at the first dot of a frame
pub start_of : (c : CardState) (d : BiosData) (b : Drawing) → CardFollowsDrawing c d b → b.dot ≡ 0 → IsFrameStart c.crtc.beam
start_of c d b is e = subst (λ n. BeamIsAtDotOfFrameFromAddress c (start_address d (if n == 0 then b.screen.page else b.page)) n) e is.at

-- a refused call keeps the mode and the layout
refused_cut : (why : Option Refusal) (s t : Screen) → why ≢ None → IsCutAs s (screen_unless_refused why s t)
refused_cut None s t some = absurd (some refl)
refused_cut (Some why) s t some = uncut s

-- the screen after a load, also if the load is refused
abbrev pub loaded_on : FontSet → Screen → GlyphLoad → List ℕ → Screen
loaded_on fonts s load block = screen_unless_refused (load_refusal_on s load (length block)) s (load_glyphs fonts s load block)

-- the adapter follows that screen
pub load_follows : (fonts : FontSet) (load : GlyphLoad) (block : List ℕ) (c y : CardState) (d after : BiosData) (b : Drawing) →
    MayLoadGlyphs b load (length block) → CardFollowsDrawing c d b → IsCard y
    → shown y after ≡ Some (loaded_on fonts b.screen load block) → y.crtc.beam ≡ c.crtc.beam → y.drawn ≡ c.drawn →
    CardFollowsDrawing y after (record b { screen = loaded_on fonts b.screen load block })
load_follows fonts load block c y d after b (inl refused) is z shows beam drawn =
    screen_follows c y d after b _ is z shows beam drawn (refused_cut (load_refusal_on b.screen load (length block)) b.screen
    (load_glyphs fonts b.screen load block) refused)
load_follows fonts load block c y d after b (inr zeroth) is z shows beam drawn =
    begins y after (record b { screen = loaded_on fonts b.screen load block }) z shows zeroth (subst IsFrameStart (sym beam) (start_of c d b is zeroth))
