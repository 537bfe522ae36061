-- Typing a character in any mode: plan by plan, from a state that shows a screen to one that shows
-- the next.
use Rattle.std.proofs.Common.{◌≡◌, ℕ, ◌+◌, ◌-◌, ◌*◌, ◌<◌, refl, sym, ap, ◌∙◌, subst, arith, Some, Bool, true, false}
use Rattle.std.specs.Prelude.{◌==◌, nat_lt, if◌then◌else◌}
use Rattle.bios_screen.proofs.Prelude.{IsCard, card_meaning, CardState, BiosData, FontSet, Colouring, page_count, Plan, run, Done, get, ◌>>=◌, ◌>>◌, Screen}
use Rattle.bios_screen.proofs.Prelude.{shown}
use Rattle.bios_services.specs.Cells.{cell_address}
use Rattle.bios_services.specs.Cursor.{row_of_position as text_row_of, column_of_position, cell_number_at}
use Rattle.bios_services.specs.Drawing.{character_plan, characters_plan}
use Rattle.bios_services.specs.Scroll.{scroll_page_up_by_a_row_plan}
use Rattle.bios_services.specs.Teletype.{position_at_start_of_row, line_feed_fill, line_feed_plan, next_position_plan, write_and_advance_plan, type_character_plan}
use Rattle.bios_screen.specs.Screen.{page_start}
use Rattle.bios_screen.specs.Step.{cell_on, last_row_attribute, after_line_feed, screen_and_next_position, put_characters, put_character, type_character}
use Rattle.bios_screen.proofs.Base.Plans.{run_bind, then_runs, then_answers}
use Rattle.bios_screen.proofs.Base.Places.{ends_before}
use Rattle.bios_services.proofs.CardLemmas.{plan_bounds}
use Rattle.bios_screen.proofs.Base.TypedPlaces.{Inside, risen, typed_inside}
use Rattle.bios_screen.proofs.Shows.Screens.{page_in, screen_shown}
use Rattle.bios_screen.proofs.Shows.Pixels.{pixels_shown, pixels_shown_of}
use Rattle.bios_screen.proofs.Shows.Any.{cut_is}
use Rattle.bios_screen.proofs.Shows.Kinds.{by_contents}
use Rattle.bios_screen.proofs.Text.Writes.{attribute_read}
use Rattle.bios_screen.proofs.Services.Characters.{characters_shown}
use Rattle.bios_screen.proofs.Services.Windows.{page_raised}

-- ---- plans that lead to a screen and a position

-- a plan leads to a state that shows a screen, and answers a position
pub record Leads (p : Plan ℕ) (c : CardState) (d : BiosData) (to : Screen × ℕ) : Type 0 where
  pub answer : (run card_meaning p c).1 ≡ to.1
  pub shows : shown (run card_meaning p c).0 d ≡ Some to.0

-- the same, and the position is on the page
pub record LeadsInside (p : Plan ℕ) (c : CardState) (d : BiosData) (to : Screen × ℕ) : Type 0 where
  pub leads : Leads p c d to
  pub inside : Inside (d.last_row + 1) d.columns to.1

-- if two plans lead to their screens, the chosen plan leads to the chosen screen
leads_if : (b : Bool) (p q : Plan ℕ) (c : CardState) (d : BiosData) (x y : Screen × ℕ) → Leads p c d x → Leads q c d y →
    Leads (if b then p else q) c d (if b then x else y)
leads_if true p q c d x y f g = f
leads_if false p q c d x y f g = g

-- a plan, and then one that uses the position it answers
pub leads_on : (p : Plan ℕ) (f : ℕ → Plan ℕ) (c : CardState) (d : BiosData) (x y : Screen × ℕ) → Leads p c d x → Leads (f x.1) (run card_meaning p c).0 d y →
    Leads (p >>= f) c d y
leads_on p f c d x y first second =
    let c1 = (run card_meaning p c).0 in
    let bound = run_bind card_meaning p f c in
    record {
      answer = ap (λ r. r.1) bound ∙ ap (λ n. (run card_meaning (f n) c1).1) first.answer ∙ second.answer;
      shows = ap (λ r. shown r.0 d) bound ∙ ap (λ n. shown (run card_meaning (f n) c1).0 d) first.answer ∙ second.shows;
    }

-- a plan without an answer, and then another plan
pub leads_after : (p : Plan (Unit {0})) (q : Plan ℕ) (c : CardState) (d : BiosData) (y : Screen × ℕ) → Leads q (run card_meaning p c).0 d y →
    Leads (p >> q) c d y
leads_after p q c d y second = record {
  answer = then_answers p q c ∙ second.answer;
  shows = ap (λ x. shown x d) (then_runs p q c) ∙ second.shows;
}

-- ---- what typing depends on

-- the page goes up by a row, which is filled as for a line feed; the position stays
abbrev pub rise_plan : BiosData → ℕ → ℕ → Plan ℕ
rise_plan d p place = line_feed_fill d p place >>= λ colour. (scroll_page_up_by_a_row_plan d p colour >> Done place)

module _ (fonts : FontSet) (d : BiosData) (p : ℕ) (lp : p < page_count d) where
  -- a character at a position is a run of one
  put : (c : CardState) (s : Screen) (place v : ℕ) (colouring : Colouring) → IsCard c → shown c d ≡ Some s → Inside (d.last_row + 1) d.columns place →
      v < 256 → colouring.colour < 256
      → shown (run card_meaning (character_plan fonts d p (cell_number_at d place) v colouring) c).0 d ≡ Some (put_character fonts s p place v colouring)
  unfolding characters_plan
  put c s place v colouring z e i lv la =
      let q = cell_number_at d place in
      let same : q ≡ q + 0 = omega arith in
      let lc = i.column in
      let within = ends_before d.columns (text_row_of place) (d.last_row + 1) i.row in
      ap (λ n. shown (run card_meaning (character_plan fonts d p n v colouring) c).0 d) same
      ∙ sym (ap (λ x. shown x d) (then_runs (character_plan fonts d p (q + 0) v colouring) (Done tt) c))
      ∙ characters_shown fonts c d s p q 1 v colouring e z lp (omega arith) lv la
      ∙ ap (λ n. Some (put_characters fonts s p (n * text_row_of place + column_of_position place) 1 v colouring)) (sym (cut_is c d s e).columns)

  -- the fill of a line feed's row: the attribute read from the last row in text, 0 in graphics
  record IsFilled (c : CardState) (place : ℕ) (s : Screen) : Type 0 where
    leads : Leads (line_feed_fill d p place) c d (s, last_row_attribute s p place)
    small : last_row_attribute s p place < 256

  filled : (c : CardState) (s : Screen) (place : ℕ) → IsCard c → shown c d ≡ Some s → column_of_position place < d.columns → IsFilled c place s
  unfolding line_feed_fill
  filled c s place z e lc =
      let q = d.columns * d.last_row + column_of_position place in
      let fill : Bool → Plan ℕ = λ b. if b then get (cell_address d p q + 1) else Done 0 in
      by_contents c d (IsFilled c place)
      (λ h.
      let y = screen_shown c d h in
      let within = ends_before d.columns d.last_row (d.last_row + 1) (omega arith) in
      let read = attribute_read c d h z p q (page_in h.row d p h.mode lp) (omega arith) in
      let last : d.last_row ≡ d.last_row + 1 - 1 = omega arith in
      let there = ap (λ n. (cell_on y (page_start y p + (d.columns * n + column_of_position place))).1) last in
      record {
        leads = subst (λ b. Leads (fill b) c d (y, last_row_attribute y p place)) (sym h.tests.is_text) (record {
          answer = read.answer ∙ there;
          shows = read.shows;
        });
        small = subst (λ n. n < 256) there read.small;
      })
      (λ h. record {
        leads = subst (λ b. Leads (fill b) c d (pixels_shown c d h, 0)) (sym h.text) (record {
          answer = refl;
          shows = pixels_shown_of c d h.row h.mode h.text h.tests;
        });
        small = omega arith;
      })
      s e

  rises : (c : CardState) (s : Screen) (place : ℕ) → IsCard c → shown c d ≡ Some s → column_of_position place < d.columns →
      Leads (rise_plan d p place) c d (risen s p place, place)
  rises c s place z e lc =
      let fill = line_feed_fill d p place in
      let up : ℕ → Plan (Unit {0}) = scroll_page_up_by_a_row_plan d p in
      let colour = last_row_attribute s p place in
      let x = filled c s place z e lc in
      let c1 = (run card_meaning fill c).0 in
      leads_on fill (λ n. up n >> Done place) c d (s, colour) (risen s p place, place) x.leads
      (leads_after (up colour) (Done place) c1 d (risen s p place, place) (record {
        answer = refl;
        shows = page_raised c1 d s (plan_bounds fill c z) x.leads.shows p colour lp x.small;
      }))

  -- ---- typing

  feeds : (c : CardState) (s : Screen) (place : ℕ) → IsCard c → shown c d ≡ Some s → column_of_position place < d.columns →
      Leads (line_feed_plan d p place) c d (after_line_feed s p place)
  unfolding line_feed_plan
  feeds c s place z e lc =
      let cut = cut_is c d s e in
      let last : s.layout.rows - 1 ≡ d.last_row = let a = cut.rows in omega arith in
      subst (λ n. Leads (if nat_lt (text_row_of place) d.last_row then Done (place + 256) else rise_plan d p place) c d (if nat_lt (text_row_of place) n
      then (s, place + 256) else (risen s p place, place))) (sym last)
      (leads_if (nat_lt (text_row_of place) d.last_row) (Done (place + 256)) (rise_plan d p place) c d (s, place + 256) (
        risen s p place,
        place,
      ) (record { answer = refl; shows = e }) (rises c s place z e lc))

  advances : (c : CardState) (s : Screen) (place : ℕ) → IsCard c → shown c d ≡ Some s → column_of_position place < d.columns →
      Leads (next_position_plan d p place) c d (screen_and_next_position s p place)
  unfolding next_position_plan
  advances c s place z e lc =
      let below = feeds c s place z e lc in
      let start : ℕ → Plan ℕ = λ x. Done (position_at_start_of_row x) in
      let next : Screen × ℕ = ((after_line_feed s p place).0, position_at_start_of_row (after_line_feed s p place).1) in
      subst (λ n. Leads (if nat_lt (column_of_position place + 1) d.columns then Done (place + 1)
      else (line_feed_plan d p place >>= start)) c d (if nat_lt (column_of_position place + 1) n then (s, place + 1) else next)) (sym (cut_is c d s e).columns)
      (leads_if (nat_lt (column_of_position place + 1) d.columns) (Done (place + 1)) (line_feed_plan d p place >>= start) c d (
        s,
        place + 1,
      ) next (record { answer = refl; shows = e })
      (leads_on (line_feed_plan d p place) start c d (after_line_feed s p place) next below (record { answer = refl; shows = below.shows })))

  module _ (c : CardState) (s : Screen) (place v : ℕ) (colouring : Colouring) (z : IsCard c) (e : shown c d ≡ Some s)
      (i : Inside (d.last_row + 1) d.columns place) (lv : v < 256) (la : colouring.colour < 256) where
    shows : Leads (write_and_advance_plan fonts d p place v colouring) c d (screen_and_next_position (put_character fonts s p place v colouring) p place)
    unfolding write_and_advance_plan
    shows =
        let write = character_plan fonts d p (cell_number_at d place) v colouring in
        leads_after write (next_position_plan d p place) c d (screen_and_next_position (put_character fonts s p place v colouring) p place)
        (advances (run card_meaning write c).0 (put_character fonts s p place v colouring) place (plan_bounds write c z)
        (put c s place v colouring z e i lv la) i.column)

    -- the screen after the character, and the position after it
    leads : Leads (type_character_plan fonts d p place v colouring) c d (type_character fonts s p place v colouring)
    unfolding type_character_plan type_character
    leads = by_tests (v == 0x07) (v == 0x08) (v == 0x0A) (v == 0x0D)
      where
        back : ℕ
        back = if column_of_position place == 0 then place else place - 1

        stays : (n : ℕ) → Leads (Done n) c d (s, n)
        stays n = record { answer = refl; shows = e }

        on : Screen × ℕ
        on = screen_and_next_position (put_character fonts s p place v colouring) p place

        by_tests : (a b f g : Bool) → Leads (if a then Done place else if b then Done back else if f then line_feed_plan d p place else if g
            then Done (position_at_start_of_row place) else write_and_advance_plan fonts d p place v colouring) c d (if a then (s, place) else if b then (s, back) else if f
            then after_line_feed s p place else if g then (s, position_at_start_of_row place) else on)
        by_tests true b f g = stays place
        by_tests false true f g = stays back
        by_tests false false true g = feeds c s place z e i.column
        by_tests false false false true = stays (position_at_start_of_row place)
        by_tests false false false false = shows

    pub is_typed : LeadsInside (type_character_plan fonts d p place v colouring) c d (type_character fonts s p place v colouring)
    is_typed = let cut = cut_is c d s e in record {
      leads = leads;
      inside = typed_inside (d.last_row + 1) d.columns cut.narrow fonts s p place v colouring
          cut.rows cut.columns i;
    }
