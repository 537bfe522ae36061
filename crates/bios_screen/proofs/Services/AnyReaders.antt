-- Services that only answer, in text and in graphics.
use Rattle.std.proofs.Common.{◌≡◌, ℕ, refl, ap, List}
use Rattle.std.specs.Prelude.{slice_index}
use Rattle.bios_screen.proofs.Prelude.{CardState, BiosData, FontSet, Regs, page_or_0_if_only_one, page_or_0_in_mode_of_one_page, page_or_0_on_screen_of_one_page, ServiceActsAsOnScreen}
use Rattle.bios_services.specs.declared.call.Service.TheVariants.{ReadCursor, ReadMode, ReadAdapter, ReadDisplay}
use Rattle.bios_services.specs.Reasons.{no_page}
use Rattle.bios_services.specs.Refusals.{refusal_in_mode}
use Rattle.bios_services.specs.Service.{plan_of_service}
use Rattle.bios_screen.specs.Step.{refusal_on, next, answer_on}
use Rattle.bios_screen.proofs.Shows.Screens.{pages_are, named_page}
use Rattle.bios_screen.proofs.Shows.Any.{IsAny, any_screen, still_any}

-- a call's page number means the same page for the adapter and for the screen
pub any_meant : (c : CardState) (d : BiosData) (h : IsAny c d) (page : ℕ) → page_or_0_in_mode_of_one_page d page ≡ page_or_0_on_screen_of_one_page (any_screen c d h c) page
any_meant c d h page = named_page h.row d h.mode page

pub read_cursor : (page : ℕ) (fonts : FontSet) (r : Regs) (block : List ℕ) (c : CardState) (d : BiosData) (h : IsAny c d) →
    ServiceActsAsOnScreen (ReadCursor page) fonts r block c d (any_screen c d h c)
unfolding plan_of_service refusal_in_mode refusal_on next answer_on
read_cursor page fonts r block c d h = record {
  refusal = ap (λ n. no_page n (page_or_0_if_only_one n page)) (pages_are h.row d h.mode);
  answer = λ _. ap (λ p. let x : Regs = record r { cx = d.cursor_type; dx = slice_index d.cursor_places p } in x) (any_meant c d h page);
  shows = λ _. still_any c d h;
  beam = refl;
}

pub read_mode : (fonts : FontSet) (r : Regs) (block : List ℕ) (c : CardState) (d : BiosData) (h : IsAny c d) →
    ServiceActsAsOnScreen ReadMode fonts r block c d (any_screen c d h c)
unfolding plan_of_service refusal_in_mode refusal_on next answer_on
read_mode fonts r block c d h = record { refusal = refl; answer = λ _. refl; shows = λ _. still_any c d h; beam = refl }

pub read_adapter : (fonts : FontSet) (r : Regs) (block : List ℕ) (c : CardState) (d : BiosData) (h : IsAny c d) →
    ServiceActsAsOnScreen ReadAdapter fonts r block c d (any_screen c d h c)
unfolding plan_of_service refusal_in_mode refusal_on next answer_on
read_adapter fonts r block c d h = record { refusal = refl; answer = λ _. refl; shows = λ _. still_any c d h; beam = refl }

pub read_display : (fonts : FontSet) (r : Regs) (block : List ℕ) (c : CardState) (d : BiosData) (h : IsAny c d) →
    ServiceActsAsOnScreen ReadDisplay fonts r block c d (any_screen c d h c)
unfolding plan_of_service refusal_in_mode refusal_on next answer_on
read_display fonts r block c d h = record { refusal = refl; answer = λ _. refl; shows = λ _. still_any c d h; beam = refl }
