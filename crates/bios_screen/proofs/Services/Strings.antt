-- Typing a string: from a state that shows a screen to one that shows the next.
use Rattle.std.proofs.Common.{◌≡◌, ℕ, zero, suc, ◌+◌, ◌*◌, ◌<◌, refl, ap, ◌∙◌, List, length, Option, Some, None, Bool, true, false}
use Rattle.std.specs.Prelude.{if◌then◌else◌, slice_index}
use Rattle.bios_screen.proofs.Prelude.{Refusal, IsCard, card_meaning, CardState, BiosData, AreBytes, FontSet, Regs, Plan, run, Done, page_count, page_or_0_if_only_one}
use Rattle.bios_screen.proofs.Prelude.{page_or_0_in_mode_of_one_page, Screen, shown, page_or_0_on_screen_of_one_page, ServiceActsAsOnScreen}
use Rattle.bios_modes.specs.Bounds.{IsBda}
use Rattle.bios_services.specs.declared.strings.StringCall.{StringCall}
use Rattle.bios_services.specs.declared.call.Service.TheVariants.{WriteString}
use Rattle.bios_services.specs.Plan.{fold}
use Rattle.bios_services.specs.Cursor.{move_cursor_plan}
use Rattle.bios_services.specs.Teletype.{type_character_plan}
use Rattle.bios_services.specs.Strings.{string_block_len, character_at, colouring_of_character, type_string_plan, string_plan}
use Rattle.bios_services.specs.Reasons.{◌or◌, no_page, outside_page, wrong_block}
use Rattle.bios_services.specs.Refusals.{refusal_in_mode}
use Rattle.bios_services.specs.Service.{plan_of_service}
use Rattle.bios_screen.specs.Step.{refusal_on, next, answer_on, type_character, type_characters, type_string, with_position as placed_on}
use Rattle.bios_screen.proofs.Base.Plans.{run_bind}
use Rattle.bios_services.proofs.CardLemmas.{plan_bounds, plan_beam}
use Rattle.bios_screen.proofs.Base.Reasons.{neither, page_allowed, place_allowed}
use Rattle.bios_screen.proofs.Shows.Screens.{pages_are, page_of}
use Rattle.bios_screen.proofs.Shows.Any.{IsAny, any_screen, still_any}
use Rattle.bios_screen.proofs.Services.AnyReaders.{any_meant}
use Rattle.bios_screen.proofs.Services.Cursors.{then_data, data_runs}
use Rattle.bios_screen.proofs.Base.TypedPlaces.{Inside}
use Rattle.bios_screen.proofs.Services.Typing.{LeadsInside, leads_on, is_typed}
use Rattle.bios_screen.proofs.Services.Teletypes.{moved}

-- ---- characters one after another

module _ (fonts : FontSet) (d : BiosData) (p : ℕ) (lp : p < page_count d) (call : StringCall) (block : List ℕ) (bytes : AreBytes block)
    (colour : call.colour < 256) where
  colouring_small : (i : ℕ) → (colouring_of_character call block i).colour < 256
  colouring_small i = by_test call.has_attributes
    where
      by_test : (b : Bool) → (if b then slice_index block (2 * i + 1) else call.colour) < 256
      by_test true = bytes (2 * i + 1)
      by_test false = colour

  -- the call with its page number resolved to page p
  abbrev there : StringCall
  there = record call { page = p }

  -- the plan that types character i of the string
  abbrev one : ℕ → ℕ → Plan ℕ
  one i place = type_character_plan fonts d p place (character_at call block i) (colouring_of_character call block i)

  -- n characters of the string are typed, from character i on
  all_typed : (n i place : ℕ) (c : CardState) (s : Screen) → shown c d ≡ Some s → IsCard c → Inside (d.last_row + 1) d.columns place →
      LeadsInside (fold one n i place) c d (type_characters fonts call block p n i (s, place))
  all_typed zero i place c s e z l = record { leads = record { answer = refl; shows = e }; inside = l }
  all_typed (suc n) i place c s e z l =
      let v = character_at call block i in
      let colouring = colouring_of_character call block i in
      let t = is_typed fonts d p lp c s place v colouring z e l (bytes _) (colouring_small i) in
      let after = type_character fonts s p place v colouring in
      let rest = all_typed n (i + 1) after.1 (run card_meaning (one i place) c).0 after.0 t.leads.shows (plan_bounds (one i place) c z) t.inside in
      record {
        leads = leads_on (one i place) (fold one n (i + 1)) c d after (type_characters fonts call block p n (i + 1) after) t.leads rest.leads;
        inside = rest.inside;
      }

  string_shown : (c : CardState) (s : Screen) → shown c d ≡ Some s → IsCard c → IsBda d → Inside (d.last_row + 1) d.columns call.position →
      (let x = run card_meaning (string_plan fonts d there block) c in shown x.0 x.1) ≡ Some (type_string fonts s p call block)
  unfolding string_plan type_string_plan
  string_shown c s e z bda l = ap (λ y. shown y.0 y.1) (run_bind card_meaning (type_string_plan fonts d there block) cursor c)
      ∙ ap (λ k. let y = run card_meaning (cursor k) c1 in shown y.0 y.1) all.leads.answer ∙ by_test call.moves_cursor
    where
      after : Screen × ℕ
      after = type_characters fonts call block p call.count 0 (s, call.position)

      cursor : ℕ → Plan BiosData
      cursor place = if call.moves_cursor then move_cursor_plan d p place else Done d

      c1 : CardState
      c1 = (run card_meaning (fold one call.count 0 call.position) c).0

      all : LeadsInside (fold one call.count 0 call.position) c d after
      all = all_typed call.count 0 call.position c s e z l

      by_test : (b : Bool) → (let q : Plan BiosData = (if b then move_cursor_plan d p after.1 else Done d) in
          shown (run card_meaning q c1).0 (run card_meaning q c1).1) ≡ Some (if b then placed_on after.0 p after.1 else after.0)
      by_test true = moved c1 d after.0 p after.1 all.leads.shows bda lp all.inside
      by_test false = all.leads.shows

-- ---- function 13

record StringAllowed (pages p rows columns place : ℕ) : Type 0 where
  page : p < pages
  inside : Inside rows columns place

string_allowed : (pages p rows columns place : ℕ) (wrong : Option Refusal) → ((no_page pages p or outside_page rows columns place) or wrong) ≡ None →
    StringAllowed pages p rows columns place
string_allowed pages p rows columns place wrong e =
    let reason = neither (no_page pages p or outside_page rows columns place) wrong e in
    let both = neither (no_page pages p) (outside_page rows columns place) reason.0 in
    record { page = page_allowed pages p both.0; inside = place_allowed rows columns place both.1 }

pub write_string : (call : StringCall) (fonts : FontSet) (r : Regs) (block : List ℕ) (c : CardState) (d : BiosData) (h : IsAny c d) →
    AreBytes block → call.colour < 256 → IsCard c → IsBda d → ServiceActsAsOnScreen (WriteString call) fonts r block c d (any_screen c d h c)
unfolding plan_of_service refusal_in_mode refusal_on next answer_on
write_string call fonts r block c d h bytes colour z bda =
    let s = any_screen c d h c in
    let p = page_or_0_in_mode_of_one_page d call.page in
    let q = page_or_0_on_screen_of_one_page s call.page in
    let runs = data_runs (string_plan fonts d (record call { page = p }) block) r c in
    record {
      refusal = ap (λ n. (no_page n (page_or_0_if_only_one n call.page) or outside_page (d.last_row + 1) d.columns call.position)
          or wrong_block (string_block_len call) (length block))
          (pages_are h.row d h.mode);
      answer = λ _. ap (λ x. x.1.0) runs;
      shows = λ allowed.
          let a = string_allowed h.row.pages q (d.last_row + 1) d.columns call.position (wrong_block (string_block_len call) (length block)) allowed in
          ap (λ x. shown x.0 x.1.1) runs
          ∙ ap (λ n. let x = run card_meaning (string_plan fonts d (record call { page = n }) block) c in shown x.0 x.1) (any_meant c d h call.page)
          ∙ string_shown fonts d q (page_of h.row d q h.mode a.page) call block bytes colour c s (still_any c d h) z bda a.inside;
      beam = plan_beam (then_data (string_plan fonts d (record call { page = p }) block) r) c;
    }
