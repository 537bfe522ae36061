-- Typing at the cursor of the active page, from one screen to the next.
use Rattle.std.proofs.Common.{◌≡◌, ℕ, ◌+◌, ◌<◌, refl, ap, ◌∙◌, List, Some, Bool, true, false}
use Rattle.std.specs.Prelude.{◌==◌, if◌then◌else◌}
use Rattle.bios_screen.proofs.Prelude.{IsCard, card_meaning, CardState, BiosData, FontSet, Regs, page_count, Plan, run, Done, ◌>>=◌, Screen, shown, ServiceActsAsOnScreen}
use Rattle.bios_modes.specs.Bounds.{IsBda}
use Rattle.bios_services.specs.declared.call.Service.TheVariants.{Teletype}
use Rattle.bios_services.specs.Cursor.{cursor_position_of, move_cursor_plan}
use Rattle.bios_services.specs.Teletype.{pixel_colouring, type_character_plan, teletype_plan}
use Rattle.bios_services.specs.Refusals.{refusal_in_mode}
use Rattle.bios_services.specs.Service.{plan_of_service}
use Rattle.bios_screen.specs.Step.{refusal_on, next, answer_on, type_character, type_at_cursor, with_position as placed_on}
use Rattle.bios_screen.proofs.Base.Plans.{run_bind}
use Rattle.bios_services.proofs.CardLemmas.{plan_beam}
use Rattle.bios_screen.proofs.Base.Reasons.{place_allowed}
use Rattle.bios_screen.proofs.Shows.Screens.{page_in}
use Rattle.bios_screen.proofs.Shows.Any.{IsAny, any_screen, any_is, cut_is, still_any}
use Rattle.bios_screen.proofs.Services.Cursors.{then_data, data_runs, moved_shown}
use Rattle.bios_screen.proofs.Base.TypedPlaces.{Inside, inside_word}
use Rattle.bios_screen.proofs.Services.Typing.{is_typed}

-- the cursor moves to a position of the page
pub moved : (c : CardState) (d : BiosData) (s : Screen) (p place : ℕ) → shown c d ≡ Some s → IsBda d → p < page_count d →
    Inside (d.last_row + 1) d.columns place → (let x = run card_meaning (move_cursor_plan d p place) c in shown x.0 x.1) ≡ Some (placed_on s p place)
moved c d s p place e bda lp i =
    let x = any_is c d s e in
    let cut = cut_is c d s e in
    let small = inside_word (d.last_row + 1) d.columns cut.narrow place cut.low i in
    moved_shown c d x.is p place bda (page_in x.is.row d p x.is.mode lp) small ∙ ap (λ (w : Screen). Some (placed_on w p place)) x.screen

-- ---- function 0E

module _ (v colour : ℕ) (lv : v < 256) (la : colour < 256) (fonts : FontSet) (c : CardState) (d : BiosData) (h : IsAny c d) (z : IsCard c)
    (bda : IsBda d) where
  abbrev s : Screen
  s = any_screen c d h c

  abbrev at : ℕ
  at = cursor_position_of d d.page

  typed_at : d.page < page_count d → Inside (d.last_row + 1) d.columns at → (let x = run card_meaning (teletype_plan fonts d v colour) c in shown x.0 x.1)
      ≡ Some (type_at_cursor fonts s v colour)
  unfolding teletype_plan
  typed_at lp inside = by_test (v == 0x07)
    where
      plan : Plan ℕ
      plan = type_character_plan fonts d d.page at v (pixel_colouring colour)

      cursor : ℕ → Plan BiosData
      cursor n = move_cursor_plan d d.page n

      after : Screen × ℕ
      after = type_character fonts s d.page at v (pixel_colouring colour)

      by_test : (b : Bool) → (let q : Plan BiosData = (if b then Done d else (plan >>= cursor)) in shown (run card_meaning q c).0 (run card_meaning q c).1)
          ≡ Some (if b then s else placed_on after.0 d.page after.1)
      by_test true = still_any c d h
      by_test false =
          let t = is_typed fonts d d.page lp c s at v (pixel_colouring colour) z (still_any c d h) inside lv la in
          let c1 = (run card_meaning plan c).0 in
          ap (λ r. shown r.0 r.1) (run_bind card_meaning plan cursor c)
          ∙ ap (λ n. let x = run card_meaning (cursor n) c1 in shown x.0 x.1) t.leads.answer
          ∙ moved c1 d after.0 d.page after.1 t.leads.shows bda lp t.inside

  pub teletype : (r : Regs) (block : List ℕ) → ServiceActsAsOnScreen (Teletype v colour) fonts r block c d s
  unfolding plan_of_service refusal_in_mode refusal_on next answer_on
  teletype r block =
      let plan = teletype_plan fonts d v colour in
      let runs = data_runs plan r c in
      record {
        refusal = refl;
        answer = λ _. ap (λ x. x.1.0) runs;
        shows = λ allowed. ap (λ x. shown x.0 x.1.1) runs ∙ typed_at (cut_is c d s (still_any c d h)).active
            (place_allowed (d.last_row + 1) d.columns at allowed);
        beam = plan_beam (then_data plan r) c;
      }
