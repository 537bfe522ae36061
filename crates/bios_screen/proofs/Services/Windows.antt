-- Functions 06 and 07, and moving a page up by a row, in any mode.
use Rattle.std.proofs.Common.{◌≡◌, ℕ, ◌+◌, ◌<◌, ◌≤◌, refl, sym, ap, ◌∙◌, arith, Option, Some, None}
use Rattle.bios_screen.proofs.Prelude.{IsCard, card_meaning, CardState, BiosData, bytes_320_by_200, Direction, Up, Down, Regs, Window, page_count, Plan, run}
use Rattle.bios_screen.proofs.Prelude.{Done, ◌>>◌, ServiceOutcome, Screen, shown}
use Rattle.bios_services.specs.declared.call.Service.TheVariants.{ScrollUp, ScrollDown}
use Rattle.bios_services.specs.declared.scroll.Scroll.{Scroll}
use Rattle.bios_services.specs.Refusals.{refusal_in_mode}
use Rattle.bios_services.specs.Scroll.{IsOnPage, window_clipped_to_page, whole_page, scroll_distance, scroll_window_plan, scroll_page_up_by_a_row_plan, scroll_window_if_any, scroll_plan}
use Rattle.bios_services.specs.Service.{plan_of_service}
use Rattle.bios_screen.specs.AfterCall.{ServiceLeadsToNextScreen}
use Rattle.bios_screen.specs.Step.{scroll_window, after_scroll_of_window, scroll, page_up, refusal_on, next, answer_on}
use Rattle.bios_services.proofs.CardLemmas.{plan_beam}
use Rattle.bios_screen.proofs.Base.Plans.{run_bind}
use Rattle.bios_screen.proofs.Base.Windows.{cut_on_page, few_lines, some_lines}
use Rattle.bios_screen.proofs.Shows.Any.{IsCut, cut_is}
use Rattle.bios_screen.proofs.Shows.Kinds.{by_modes}
use Rattle.bios_screen.proofs.Shows.Screens.{page_in}
use Rattle.bios_screen.proofs.Text.Windows as text
use Rattle.bios_screen.proofs.Planar.Scrolls as planar
use Rattle.bios_screen.proofs.Packed.Scrolls as packed

module _ (c : CardState) (d : BiosData) (s : Screen) (z : IsCard c) (e : shown c d ≡ Some s) where
  window_shown : (p : ℕ) → p < page_count d → (w : Window) → IsOnPage (d.last_row + 1) d.columns w → (direction : Direction) (n colour : ℕ) → 0 < n →
      n ≤ w.height →
      colour < 256 → shown (run card_meaning (scroll_window_plan d p w direction n colour) c).0 d ≡ Some (scroll_window s p w direction n colour)
  window_shown p lp w on direction n colour some few lc =
      by_modes c d (λ x. shown (run card_meaning (scroll_window_plan d p w direction n colour) c).0 d ≡ Some (scroll_window x p w direction n colour))
      (λ h. text.window_shown c d h p (page_in h.row d p h.mode lp) w on direction n colour z some few lc)
      (λ row is. planar.window_shown row c d is z p (page_in row d p (is.there d.height) lp) w on direction n colour some few)
      (λ is. packed.window_shown c d is z p (page_in bytes_320_by_200 d p (is.there d.height) lp) w on direction n colour lc some few)
      s e

  pub page_raised : (p colour : ℕ) → p < page_count d → colour < 256 → shown (run card_meaning (scroll_page_up_by_a_row_plan d p colour) c).0 d
      ≡ Some (page_up s p colour)
  page_raised p colour lp lc =
      let cut = cut_is c d s e in
      window_shown p lp (whole_page (d.last_row + 1) d.columns) (record { below = omega arith; after = omega arith; some = omega arith }) Up 1 colour
      (omega arith) (omega arith) lc
      ∙ ap (λ n. Some (scroll_window s p (whole_page n d.columns) Up 1 colour)) (sym cut.rows)
      ∙ ap (λ n. Some (scroll_window s p (whole_page s.layout.rows n) Up 1 colour)) (sym cut.columns)

  module _ (asked : Scroll) (lc : asked.fill < 256) (direction : Direction) where
    asked_shown : shown (run card_meaning (scroll_plan d asked direction) c).0 d ≡ Some (scroll s asked direction)
    unfolding scroll_plan
    asked_shown =
        by_window (window_clipped_to_page (d.last_row + 1) d.columns asked) refl
        ∙ ap (λ n. Some (after_scroll_of_window s asked direction (window_clipped_to_page n d.columns asked))) (sym cut.rows)
        ∙ ap (λ n. Some (after_scroll_of_window s asked direction (window_clipped_to_page s.layout.rows n asked))) (sym cut.columns)
      where
        cut : IsCut d s
        cut = cut_is c d s e

        by_window : (o : Option Window) → window_clipped_to_page (d.last_row + 1) d.columns asked ≡ o → shown (run card_meaning (scroll_window_if_any d asked direction o) c).0 d
            ≡ Some (after_scroll_of_window s asked direction o)
        by_window None q = e
        by_window (Some w) q =
            let on = cut_on_page (d.last_row + 1) d.columns asked w q in
            let n = scroll_distance w asked.lines in
            window_shown d.page cut.active w on direction n asked.fill (some_lines w asked.lines on.some) (few_lines w asked.lines) lc
            ∙ ap (λ p. Some (scroll_window s p w direction n asked.fill)) (sym cut.page)

    -- the service's answer and the screen after it; the beam stays where it is
    pub record IsPerformed (r : Regs) : Type 0 where
      pub answer : (run card_meaning (scroll_plan d asked direction >> (let x : Plan ServiceOutcome = Done (r, d) in x)) c).1.0 ≡ r
      pub shows : (let x = run card_meaning (scroll_plan d asked direction >> (let y : Plan ServiceOutcome = Done (r, d) in y)) c in shown x.0 x.1.1)
          ≡ Some (scroll s asked direction)
      pub beam : (run card_meaning (scroll_plan d asked direction >> (let x : Plan ServiceOutcome = Done (r, d) in x)) c).0.crtc.beam ≡ c.crtc.beam

    pub is_performed : (r : Regs) → IsPerformed r
    is_performed r =
        let done : Plan ServiceOutcome = Done (r, d) in
        let runs = run_bind card_meaning (scroll_plan d asked direction) (λ _. done) c in
        record {
          answer = ap (λ q. q.1.0) runs;
          shows = ap (λ q. shown q.0 q.1.1) runs ∙ asked_shown;
          beam = plan_beam (scroll_plan d asked direction >> done) c;
        }

pub scroll_up : (asked : Scroll) → asked.fill < 256 → ServiceLeadsToNextScreen (ScrollUp asked)
unfolding plan_of_service refusal_in_mode refusal_on next answer_on
scroll_up asked lc fonts r block c d s bytes z bda e = let x = is_performed c d s z e asked lc Up r in
    record { refusal = refl; answer = λ _. x.answer; shows = λ _. x.shows; beam = x.beam }

pub scroll_down : (asked : Scroll) → asked.fill < 256 → ServiceLeadsToNextScreen (ScrollDown asked)
unfolding plan_of_service refusal_in_mode refusal_on next answer_on
scroll_down asked lc fonts r block c d s bytes z bda e = let x = is_performed c d s z e asked lc Down r in
    record { refusal = refl; answer = λ _. x.answer; shows = λ _. x.shows; beam = x.beam }
