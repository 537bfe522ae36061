-- Functions 0C and 0D: a pixel is written or read in any graphics mode; in text both are refused.
use Rattle.std.proofs.Common.{◌≡◌, ℕ, ◌+◌, ◌*◌, ◌<◌, refl, ap, ◌∙◌, List, Some, None, Bool, true, false}
use Rattle.std.specs.Prelude.{nat_lt, not}
use Rattle.vga_bits.specs.declared.refusal.Refusal.TheVariants.{Outside, WrongKind}
use Rattle.bios_screen.proofs.Prelude.{IsCard, card_meaning, CardState, BiosData, FontSet, bytes_320_by_200, is_text, Regs, page_count, Plan, run, Done, ◌>>=◌}
use Rattle.bios_screen.proofs.Prelude.{◌>>◌, page_or_0_if_only_one, page_or_0_in_mode_of_one_page, ServiceOutcome, Screen, shown, page_or_0_on_screen_of_one_page, pixel_of, with_pixels, ServiceActsAsOnScreen}
use Rattle.bios_services.specs.declared.call.Service.TheVariants.{WritePixel, ReadPixel}
use Rattle.bios_services.specs.Registers.{with_low}
use Rattle.bios_services.specs.Pixels.{pixels_across, pixels_down, write_pixel_plan, read_pixel_plan}
use Rattle.bios_services.specs.Reasons.{◌or◌, refuse_unless_graphics_mode, no_page, outside_pixels}
use Rattle.bios_services.specs.Refusals.{refusal_in_mode}
use Rattle.bios_services.specs.Service.{plan_of_service, read_pixel_service}
use Rattle.bios_screen.specs.Step.{refusal_on, next, answer_on, pixel_number, colour_over, change_pixel}
use Rattle.bios_screen.proofs.Base.Plans.{run_bind}
use Rattle.bios_screen.proofs.Base.Tests.{both_true, lt_is}
use Rattle.bios_screen.proofs.Base.Reasons.{neither, holds, page_allowed}
use Rattle.bios_services.proofs.CardLemmas.{plan_beam}
use Rattle.bios_screen.proofs.Shows.Screens.{pages_are, page_in, page_of, named_page}
use Rattle.bios_screen.proofs.Shows.Any.{IsAny, any_screen, still_any}
use Rattle.bios_screen.proofs.Shows.Kinds.{by_colours}
use Rattle.bios_screen.proofs.Pixels.NewPixels.{There}
use Rattle.bios_screen.proofs.Pixels.Reads.{IsSeen}
use Rattle.bios_screen.proofs.Planar.Dots as planar
use Rattle.bios_screen.proofs.Planar.Reads as planar_reads
use Rattle.bios_screen.proofs.Packed.Pixels as packed

-- ---- the services, given what their plans do to pixels

module _ (c : CardState) (d : BiosData) (h : IsAny c d) (page x y : ℕ) where
  abbrev s : Screen
  s = any_screen c d h c

  abbrev p : ℕ
  p = page_or_0_on_screen_of_one_page s page

  -- a call that is not refused: the mode is graphics, and the pixel exists
  record IsAllowed : Type 0 where
    in_graphics : is_text d.mode ≡ false
    on_page : p < page_count d
    there : There d x y

  allowed : (refuse_unless_graphics_mode d.mode or no_page h.row.pages p or outside_pixels (pixels_across d) (pixels_down d) x y) ≡ None → IsAllowed
  allowed e =
      let text = neither (refuse_unless_graphics_mode d.mode) (no_page h.row.pages p or outside_pixels (pixels_across d) (pixels_down d) x y) e in
      let page = neither (no_page h.row.pages p) (outside_pixels (pixels_across d) (pixels_down d) x y) text.1 in
      let inside = both_true (nat_lt x (pixels_across d)) (nat_lt y (pixels_down d)) (holds _ Outside page.1) in
      record {
        in_graphics = is_not (is_text d.mode) (holds (not (is_text d.mode)) WrongKind text.0);
        on_page = page_of h.row d p h.mode (page_allowed h.row.pages p page.0);
        there = record { across = lt_is x (pixels_across d) inside.0; down = lt_is y (pixels_down d) inside.1 };
      }
    where
      is_not : (b : Bool) → not b ≡ true → b ≡ false
      is_not true q = absurd (cc)
      is_not false q = refl

  pub write_by : (colour : ℕ) (fonts : FontSet) (r : Regs) (block : List ℕ) → (is_text d.mode ≡ false → p < page_count d → There d x y →
      shown (run card_meaning (write_pixel_plan d p x y colour) c).0 d
      ≡ Some (with_pixels s p (change_pixel (pixel_number s x y) (colour_over d.mode colour))))
      → ServiceActsAsOnScreen (WritePixel page x y colour) fonts r block c d s
  unfolding plan_of_service refusal_in_mode refusal_on next answer_on
  write_by colour fonts r block drawn =
      let plan = write_pixel_plan d (page_or_0_in_mode_of_one_page d page) x y colour in
      let done : Plan ServiceOutcome = Done (r, d) in
      let runs = run_bind card_meaning plan (λ _. done) c in
      record {
        refusal = ap (λ n. refuse_unless_graphics_mode d.mode or no_page n (page_or_0_if_only_one n page) or outside_pixels (pixels_across d) (pixels_down d) x y) (pages_are h.row d h.mode);
        answer = λ _. ap (λ q. q.1.0) runs;
        shows = λ e.
            let a = allowed e in
            ap (λ q. shown q.0 q.1.1) runs
            ∙ ap (λ i. shown (run card_meaning (write_pixel_plan d i x y colour) c).0 d) (named_page h.row d h.mode page)
            ∙ drawn a.in_graphics a.on_page a.there;
        beam = plan_beam (plan >> done) c;
      }

  pub read_by : (fonts : FontSet) (r : Regs) (block : List ℕ) → (is_text d.mode ≡ false → p < page_count d → There d x y →
      IsSeen (λ y. shown y d ≡ Some s) (read_pixel_plan d p x y) (pixel_of s p (pixel_number s x y)) c) → ServiceActsAsOnScreen (ReadPixel page x y) fonts r block c d s
  unfolding plan_of_service read_pixel_service refusal_in_mode refusal_on next answer_on
  read_by fonts r block read =
      let after : ℕ → Plan Regs = λ colour. Done (record r { ax = with_low r.ax colour }) in
      let done : Regs → Plan ServiceOutcome = λ q. Done (q, d) in
      let dot = read_pixel_plan d (page_or_0_in_mode_of_one_page d page) x y in
      let plan = dot >>= after in
      let runs =
      run_bind card_meaning plan done c
      ∙ ap (λ (q : CardState × Regs). run card_meaning (done q.1) q.0) (run_bind card_meaning dot after c)
      ∙ ap (λ i. let q = run card_meaning (read_pixel_plan d i x y) c in let w : CardState
      × ServiceOutcome = (q.0, (record r { ax = with_low r.ax q.1 }, d)) in w) (named_page h.row d h.mode page) in
      record {
        refusal = ap (λ n. refuse_unless_graphics_mode d.mode or no_page n (page_or_0_if_only_one n page) or outside_pixels (pixels_across d) (pixels_down d) x y) (pages_are h.row d h.mode);
        answer = λ e.
            let a = allowed e in
            ap (λ q. q.1.0) runs ∙ ap (λ n. let w : Regs = record r { ax = with_low r.ax n } in w) (read a.in_graphics a.on_page a.there).value;
        shows = λ e. let a = allowed e in ap (λ q. shown q.0 q.1.1) runs ∙ (read a.in_graphics a.on_page a.there).still;
        beam = plan_beam (plan >>= done) c;
      }

-- ---- in graphics, and in text

module _ (c : CardState) (d : BiosData) (h : IsAny c d) (page x y : ℕ) (fonts : FontSet) (r : Regs) (block : List ℕ) where
  abbrev seen : Screen
  seen = any_screen c d h c

  abbrev at : ℕ
  at = page_or_0_on_screen_of_one_page seen page

  pub write_pixel : (colour : ℕ) → colour < 256 → IsCard c → ServiceActsAsOnScreen (WritePixel page x y colour) fonts r block c d seen
  write_pixel colour l z = write_by c d h page x y colour fonts r block (λ f lp there.
      by_colours c d (λ w. shown (run card_meaning (write_pixel_plan d at x y colour) c).0 d
      ≡ Some (with_pixels w at (change_pixel (8 * d.columns * y + x) (colour_over d.mode colour))))
      (λ row t. planar.pixel_written row c d t z at x y colour (page_in row d at (t.there d.height) lp) there)
      (λ t. packed.pixel_written c d t z at x y colour (page_in bytes_320_by_200 d at (t.there d.height) lp) there l)
      seen f (still_any c d h))

  pub read_pixel : IsCard c → ServiceActsAsOnScreen (ReadPixel page x y) fonts r block c d seen
  read_pixel z = read_by c d h page x y fonts r block (λ f lp there.
      by_colours c d (λ w. IsSeen (λ y. shown y d ≡ Some w) (read_pixel_plan d at x y) (pixel_of w at (8 * d.columns * y + x)) c)
      (λ row t. planar_reads.pixel_read row c d t z at x y (page_in row d at (t.there d.height) lp) there)
      (λ t. packed.pixel_read c d t z at x y (page_in bytes_320_by_200 d at (t.there d.height) lp) there)
      seen f (still_any c d h))

  pub write_refused : is_text d.mode ≡ true → (colour : ℕ) → ServiceActsAsOnScreen (WritePixel page x y colour) fonts r block c d seen
  write_refused t colour = write_by c d h page x y colour fonts r block (λ f _ _. absurd (cc))

  pub read_refused : is_text d.mode ≡ true → ServiceActsAsOnScreen (ReadPixel page x y) fonts r block c d seen
  read_refused t = read_by c d h page x y fonts r block (λ f _ _. absurd (cc))
