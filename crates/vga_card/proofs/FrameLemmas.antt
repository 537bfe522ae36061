-- Frames: their end, and what is drawn on the way.
use Rattle.std.proofs.Common.{◌≡◌, ℕ, zero, suc, ◌+◌, ◌-◌, ◌<◌, ◌≤◌, ⊎_elim, refl, sym, ap, subst, ◌∙◌, arith, Bool, true, false, List, [], ◌∷◌, ◌++◌}
use Rattle.std.proofs.Common.{append_assoc, length, replicate, Some, None}
use Rattle.std.specs.Prelude.{if◌then◌else◌, ◌==◌, ◌&&◌}
use Rattle.std.proofs.lemmas.Bool.Decides.{nat_tests}
use Rattle.std.proofs.lemmas.Bool.{cases_order}
use Rattle.std.proofs.lemmas.List.{length-replicate}
use Rattle.vga_host.specs.Host.{HostState}
use Rattle.vga_crtc.specs.declared.beam.Beam.{Beam}
use Rattle.vga_crtc.specs.Crtc.{CrtcState}
use Rattle.vga_crtc.specs.Beam.{is_first_dot_of_frame, crtc_with_start_taken, after_dot, after_dots, dots as beam_dots}
use Rattle.vga_crtc.specs.Raster.{IsFrameStart, DotsToFrameEndAreFewest}
use Rattle.vga_attr.specs.Attr.{AttrState}
use Rattle.vga_dac.specs.Dac.{DacState}
use Rattle.vga_card.specs.Picture.{Dot, lines_of_dots, line_of_each_dot_by_widths, all_equal_to, run_lengths, picture_shape, shape_of}
use Rattle.vga_card.specs.Canvas.{nonzero_widths}
use Rattle.vga_card.specs.Card.{CardState}
use Rattle.vga_card.specs.Dots.{character_width, dots_of_frame_so_far, display_dot, dot, dots}
use Rattle.vga_card.specs.Frames.{card_dots_to_frame_end, frame, FrameTakesFewestDots, concatenated_dots, display_dot_after_dots, DrawsDisplayDots}
use Rattle.vga_card.proofs.DotLemmas.{dots_more, dots_split}
use Rattle.vga_card.proofs.ShapeLemmas.{runs_are}

-- ---- what dots leave

-- dots move the beam alone
dots_crtc : (n : ℕ) (c : CardState) → (dots n c).crtc ≡ after_dots c.crtc (character_width c) n
unfolding dots dot after_dot after_dots beam_dots
dots_crtc zero c = refl
dots_crtc (suc n) c = dots_crtc n (dot c)

pub dots_host : (n : ℕ) (c : CardState) → (dots n c).host ≡ c.host
unfolding dots dot
dots_host zero c = refl
dots_host (suc n) c = dots_host n (dot c)

dots_attr : (n : ℕ) (c : CardState) → (dots n c).attr ≡ c.attr
unfolding dots dot
dots_attr zero c = refl
dots_attr (suc n) c = dots_attr n (dot c)

dots_dac : (n : ℕ) (c : CardState) → (dots n c).dac ≡ c.dac
unfolding dots dot
dots_dac zero c = refl
dots_dac (suc n) c = dots_dac n (dot c)

beam_after : (n : ℕ) (c : CardState) → (dots n c).crtc.beam ≡ beam_dots (character_width c) c.crtc.registers n c.crtc.beam
unfolding after_dots
beam_after n c = ap (λ (x : CrtcState). x.beam) (dots_crtc n c)

-- n dots change the beam and what is drawn, and nothing else
pub dots_change_only_beam_and_picture : (n : ℕ) (c : CardState) → dots n c ≡ record c { crtc = after_dots c.crtc (character_width c) n; drawn = (dots n c).drawn }
unfolding dots dot after_dot after_dots beam_dots
dots_change_only_beam_and_picture zero c = refl
dots_change_only_beam_and_picture (suc n) c = dots_change_only_beam_and_picture n (dot c)

-- ---- the end of a frame

-- what the CRT controller promises of the end of a frame
abbrev pub FramesEnd : Type 0
FramesEnd = (cw : ℕ) (r : List ℕ) (b : Beam) → 0 < cw → DotsToFrameEndAreFewest cw r b

pub wide : (v : Bool) → 0 < (if v then 8 else 9)
wide true = omega arith
wide false = omega arith

pub frame_takes_fewest_dots : FramesEnd → (c : CardState) → FrameTakesFewestDots c
frame_takes_fewest_dots ends_at c =
    let ends = ends_at (character_width c) c.crtc.registers c.crtc.beam (wide _) in
    record {
      some = ends.some;
      next = beam_after (card_dots_to_frame_end c) c ∙ ends.next;
      there = subst IsFrameStart (sym (beam_after (card_dots_to_frame_end c) c)) ends.there;
      first = λ m lo hi start. ends.first m lo hi (subst IsFrameStart (beam_after m c) start);
    }

-- the dots that are left after n dots of a frame, with these, are the frame's
frame_left : FramesEnd → (c : CardState) (n : ℕ) → n < card_dots_to_frame_end c → n + card_dots_to_frame_end (dots n c) ≡ card_dots_to_frame_end c
frame_left ends_at c n within =
    let all = card_dots_to_frame_end c in
    let left = card_dots_to_frame_end (dots n c) in
    let ends = frame_takes_fewest_dots ends_at c in
    let later = frame_takes_fewest_dots ends_at (dots n c) in
    let at : (m : ℕ) → (dots (n + m) c).crtc.beam ≡ (dots m (dots n c)).crtc.beam = λ m. ap (λ (x : CardState). x.crtc.beam) (dots_split n m c) in
    let whole : n + (all - n) ≡ all = omega arith in
    ⊎_elim
    (λ (here : n + left ≡ all). here)
    (⊎_elim
    (λ (before : n + left < all). absurd (ends.first (n + left) (omega (arith, later.some)) before (subst IsFrameStart (sym (at left)) later.there)))
    (λ (beyond : all < n + left). absurd (later.first (all - n) (omega arith) (omega arith)
    (subst IsFrameStart (ap (λ k. (dots k c).crtc.beam) (sym whole) ∙ at (all - n)) ends.there))))
    (cases_order (n + left) all)

-- a frame goes on after some of its dots
pub partly_taken_frame_ends_the_same : FramesEnd → (c : CardState) (n : ℕ) → n < card_dots_to_frame_end c → frame (dots n c) ≡ frame c
partly_taken_frame_ends_the_same ends_at c n within = sym (dots_split n (card_dots_to_frame_end (dots n c)) c) ∙ ap (λ k. dots k c) (frame_left ends_at c n within)

-- ---- what is drawn on the way

dot_drawn : (c : CardState) → (dot c).drawn ≡ dots_of_frame_so_far c ++ display_dot c.host (crtc_with_start_taken c.crtc) c.attr c.dac
unfolding dot
dot_drawn c = refl

-- the dot that joins after n others
joins : (n : ℕ) (c : CardState) → display_dot (dots n c).host (crtc_with_start_taken (dots n c).crtc) (dots n c).attr (dots n c).dac ≡ display_dot_after_dots c n
joins n c =
    let d = dots n c in
    ap (λ (x : HostState). display_dot x (crtc_with_start_taken d.crtc) d.attr d.dac) (dots_host n c)
    ∙ ap (λ (x : CrtcState). display_dot c.host (crtc_with_start_taken x) d.attr d.dac) (dots_crtc n c)
    ∙ ap (λ (x : AttrState). display_dot c.host (crtc_with_start_taken (after_dots c.crtc (character_width c) n)) x d.dac) (dots_attr n c)
    ∙ ap (λ (x : DacState). display_dot c.host (crtc_with_start_taken (after_dots c.crtc (character_width c) n)) c.attr x) (dots_dac n c)

dots_none : (c : CardState) → dots 0 c ≡ c
unfolding dots
dots_none c = refl

is_away : (v : Bool) → (v ≡ true → ⊥) → v ≡ false
is_away true h = absurd (h refl)
is_away false h = refl

start_is : (b : Beam) → is_first_dot_of_frame b ≡ true → IsFrameStart b
start_is b h = record { line = grind (arith, nat_tests); character = grind (arith, nat_tests); dot = grind (arith, nat_tests) }

draws_more : FramesEnd → (c : CardState) (n : ℕ) → suc n ≤ card_dots_to_frame_end c → (dots (suc n) c).drawn ≡ dots_of_frame_so_far c ++ concatenated_dots (display_dot_after_dots c) (suc n)
draws_more ends_at c zero hi =
    let e : 1 ≡ 0 + 1 = omega arith in
    ap (λ k. (dots k c).drawn) e ∙ ap (λ (x : CardState). x.drawn) (dots_more 0 c ∙ ap dot (dots_none c)) ∙ dot_drawn c
    ∙ ap (λ (x : CardState). dots_of_frame_so_far c ++ display_dot x.host (crtc_with_start_taken x.crtc) x.attr x.dac) (sym (dots_none c)) ∙ ap (λ x. dots_of_frame_so_far c ++ x) (joins 0 c)
draws_more ends_at c (suc n) hi =
    let ends = frame_takes_fewest_dots ends_at c in
    let e : suc (suc n) ≡ suc n + 1 = omega arith in
    let d = dots (suc n) c in
    let away : is_first_dot_of_frame d.crtc.beam ≡ false = is_away (is_first_dot_of_frame d.crtc.beam) (λ h.
    ends.first (suc n) (omega arith) (omega arith) (start_is d.crtc.beam h)) in
    ap (λ k. (dots k c).drawn) e ∙ ap (λ (x : CardState). x.drawn) (dots_more (suc n) c) ∙ dot_drawn d
    ∙ ap (λ v. (if v then [] else d.drawn) ++ display_dot d.host (crtc_with_start_taken d.crtc) d.attr d.dac) away
    ∙ ap (λ x. d.drawn ++ x) (joins (suc n) c)
    ∙ ap (λ x. x ++ display_dot_after_dots c (suc n)) (draws_more ends_at c n (omega arith))
    ∙ append_assoc (dots_of_frame_so_far c) (concatenated_dots (display_dot_after_dots c) (suc n)) (display_dot_after_dots c (suc n))

pub dots_are_places : FramesEnd → (c : CardState) → DrawsDisplayDots c
dots_are_places ends_at c zero lo hi = absurd (omega arith)
dots_are_places ends_at c (suc n) lo hi = draws_more ends_at c n hi

-- ---- rows of one width

same_widths : (w h : ℕ) → all_equal_to w (replicate h w) ≡ true
same_widths w zero = refl
same_widths w (suc h) =
    let t : (w == w) ≡ true = grind (arith, nat_tests) in
    ap (λ v. v && all_equal_to w (replicate h w)) t ∙ same_widths w h

positive_widths : (w h : ℕ) → nonzero_widths (replicate h (suc w)) ≡ replicate h (suc w)
positive_widths w zero = refl
positive_widths w (suc h) = ap (λ x. suc w ∷ x) (positive_widths w h)

pub equally_wide_rows_make_a_picture : (width height : ℕ) (drawn : List Dot) → 0 < width → 0 < height → lines_of_dots drawn ≡ line_of_each_dot_by_widths 0 (replicate height width) →
    picture_shape drawn ≡ Some (record { width = width; height = height })
equally_wide_rows_make_a_picture zero height drawn p q e = absurd (omega arith)
equally_wide_rows_make_a_picture (suc w) zero drawn p q e = absurd (omega arith)
equally_wide_rows_make_a_picture (suc w) (suc h) drawn p q e =
    let z : length (replicate h (suc w)) + 1 ≡ suc h = omega (arith, length-replicate h (suc w)) in
    ap (λ x. shape_of (run_lengths x)) e ∙ ap shape_of (runs_are 0 (replicate (suc h) (suc w)) ∙ positive_widths w (suc h))
    ∙ ap (λ v. if v then Some (record { width = suc w; height = length (replicate h (suc w)) + 1 }) else None) (same_widths (suc w) h)
    ∙ ap (λ n. Some (record { width = suc w; height = n })) z
