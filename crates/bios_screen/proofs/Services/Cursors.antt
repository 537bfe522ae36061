-- Services that change the CRT controller's registers, in text and in graphics: the cursor type,
-- the cursor position and the active page.
use Rattle.std.proofs.Common.{◌≡◌, ◌≢◌, ℕ, ◌+◌, ◌*◌, ◌/◌, ◌%◌, ◌<◌, ◌≤◌, ⊎_elim, refl, sym, ap, ◌∙◌, arith, List, Some, None, Bool, true, false}
use Rattle.std.specs.Prelude.{slice_index, slice_set, ◌==◌, ◌&&◌, nat_lt, if◌then◌else◌, bit_and}
use Rattle.std.proofs.lemmas.Bool.{cases_eq, agree_below_at}
use Rattle.std.proofs.lemmas.Bool.Decides.{nat_tests}
use Rattle.std.proofs.lemmas.List.{get_or-set_same, get_or-set_other}
use Rattle.vga_crtc.specs.Ports.{after_out as after_crtc}
use Rattle.vga_card.specs.declared.port.Port.TheVariants.{CrtcIndex, CrtcData}
use Rattle.bios_screen.proofs.Prelude.{CardState, crtc_port, card_meaning, ModeRow, BiosData, FontSet, is_text, Regs, Plan, run, Done, ◌>>=◌, ◌>>◌}
use Rattle.bios_screen.proofs.Prelude.{start_address, page_or_0_if_only_one, page_or_0_in_mode_of_one_page, ServiceOutcome, Screen, crtc_registers, shown, page_or_0_on_screen_of_one_page, ServiceActsAsOnScreen}
use Rattle.vga_card.specs.Cycles.{out_at, out_reached}
use Rattle.bios_modes.specs.Bounds.{IsBda}
use Rattle.bios_services.specs.declared.call.Service.TheVariants.{SetCursorType, SetCursor, SelectPage}
use Rattle.bios_services.specs.Registers.{high, low}
use Rattle.bios_services.specs.Cycles.{write_crtc}
use Rattle.bios_services.specs.Cursor.{write_crtc_word_plan, show_cursor_plan, show_page_plan, cursor_address, cursor_position_of, with_position, with_page, move_cursor_plan}
use Rattle.bios_services.specs.Cursor.{cursor_type_plan}
use Rattle.bios_services.specs.Reasons.{no_page}
use Rattle.bios_services.specs.Refusals.{refusal_in_mode}
use Rattle.bios_services.specs.Service.{plan_of_service}
use Rattle.bios_screen.specs.Shown.{cursor_location_shown, has_bios_data_of_mode, screen_of, screen_shown_in_mode}
use Rattle.bios_screen.specs.Step.{refusal_on, next, answer_on, with_position as placed_on}
use Rattle.bios_screen.proofs.Base.Plans.{run_bind, then_runs}
use Rattle.bios_screen.proofs.Base.Ports.{crtc_runs}
use Rattle.bios_screen.proofs.Base.Places.{few_cells}
use Rattle.bios_services.proofs.CardLemmas.{plan_beam}
use Rattle.bios_screen.proofs.Base.Tests.{both_true, both_are, lt_test}
use Rattle.bios_screen.proofs.Base.Reasons.{page_allowed}
use Rattle.bios_screen.proofs.Shows.Screens.{pages_are, data_is, shows_by}
use Rattle.bios_screen.proofs.Shows.Any.{with_cursors, IsAny, any_screen}
use Rattle.bios_screen.proofs.Services.AnyReaders.{any_meant}

pub and_255 : (v : ℕ) → v < 256 → bit_and v 0xFF ≡ v
and_255 v l = let t = agree_below_at (λ v. bit_and v 0xFF == v) (λ _. true) 256 v refl l in grind (arith, nat_tests)

two_bytes : (n : ℕ) → 256 * (n / 256) + n % 256 ≡ n
two_bytes n = omega arith

abbrev pub with_crtc : CardState → List ℕ → ℕ → CardState
with_crtc c l i = record c { crtc = record c.crtc { registers = l; index = i } }

-- ---- registers in pairs, each of which holds a word

-- the adapter after v is written to register i
abbrev written : CardState → ℕ → ℕ → CardState
written c i v = (out_at (out_at c (Some CrtcIndex) i).0 (Some CrtcData) v).0

-- two writes, given what each leaves
bytes_written : (c : CardState) (i a b : ℕ) (x y : List ℕ) → written c i a ≡ with_crtc c x i → written (with_crtc c x i) (i + 1) b ≡ with_crtc c y (i + 1) →
    (run card_meaning (write_crtc (crtc_port c.misc) i a >> write_crtc (crtc_port c.misc) (i + 1) b) c).0 ≡ with_crtc c y (i + 1)
bytes_written c i a b x y e f =
    let p = crtc_port c.misc in
    then_runs (write_crtc p i a) (write_crtc p (i + 1) b) c
    ∙ ap (λ s. (run card_meaning (write_crtc p (i + 1) b) s).0) (crtc_runs c i a ∙ e)
    ∙ crtc_runs (with_crtc c x i) (i + 1) b
    ∙ f

-- a row's registers for one cursor type, start address and location become those for others
module _ (c : CardState) (row : ModeRow) (type start location : ℕ) (r : c.crtc.registers ≡ crtc_registers row type start location) where
  abbrev l : List ℕ
  l = c.crtc.registers

  type_set : (new : ℕ) → (run card_meaning (write_crtc (crtc_port c.misc) 0x0A (high new) >> write_crtc (crtc_port c.misc) 0x0B (low new)) c).0
      ≡ with_crtc c (crtc_registers row new start location) 0x0B
  unfolding out_reached after_crtc
  type_set new =
      let a = bit_and (high new) 0x3F in
      let b = bit_and (low new) 0x7F in
      bytes_written c 0x0A (high new) (low new) (slice_set l 0x0A a) (slice_set (slice_set l 0x0A a) 0x0B b) refl refl
      ∙ ap (λ x. with_crtc c (slice_set (slice_set x 0x0A a) 0x0B b) 0x0B) r

  start_set : (n : ℕ) → n < 65536 → (run card_meaning (write_crtc_word_plan (crtc_port c.misc) 0x0C n) c).0 ≡ with_crtc c (crtc_registers row type n location) 0x0D
  unfolding write_crtc_word_plan out_reached after_crtc
  start_set n few =
      let a = bit_and (n / 256) 0xFF in
      let b = bit_and (n % 256) 0xFF in
      bytes_written c 0x0C (n / 256) (n % 256) (slice_set l 0x0C a) (slice_set (slice_set l 0x0C a) 0x0D b) refl refl
      ∙ ap (λ x. with_crtc c (slice_set (slice_set x 0x0C a) 0x0D b) 0x0D) r
      ∙ ap (λ x. with_crtc c (slice_set (slice_set (crtc_registers row type start location) 0x0C x) 0x0D b) 0x0D) (and_255 (n / 256) (omega arith))
      ∙ ap (λ x. with_crtc c (slice_set (slice_set (crtc_registers row type start location) 0x0C (n / 256)) 0x0D x) 0x0D) (and_255 (n % 256) (omega arith))

  location_set : (n : ℕ) → n < 65536 → (run card_meaning (write_crtc_word_plan (crtc_port c.misc) 0x0E n) c).0 ≡ with_crtc c (crtc_registers row type start n) 0x0F
  unfolding write_crtc_word_plan out_reached after_crtc
  location_set n few =
      let a = bit_and (n / 256) 0xFF in
      let b = bit_and (n % 256) 0xFF in
      bytes_written c 0x0E (n / 256) (n % 256) (slice_set l 0x0E a) (slice_set (slice_set l 0x0E a) 0x0F b) refl refl
      ∙ ap (λ x. with_crtc c (slice_set (slice_set x 0x0E a) 0x0F b) 0x0F) r
      ∙ ap (λ x. with_crtc c (slice_set (slice_set (crtc_registers row type start location) 0x0E x) 0x0F b) 0x0F) (and_255 (n / 256) (omega arith))
      ∙ ap (λ x. with_crtc c (slice_set (slice_set (crtc_registers row type start location) 0x0E (n / 256)) 0x0F x) 0x0F) (and_255 (n % 256) (omega arith))

  -- the location changes only in text, and only if page p is the active page
  cursor_set : (e : BiosData) (p : ℕ) → e.crtc_address ≡ crtc_port c.misc → ((is_text e.mode && (p == e.page)) ≡ true → cursor_address e p < 65536) →
      (run card_meaning (show_cursor_plan e p) c).0
      ≡ with_crtc c (crtc_registers row type start (if is_text e.mode && (p == e.page) then cursor_address e p else location))
      (if is_text e.mode && (p == e.page) then 0x0F else c.crtc.index)
  unfolding show_cursor_plan
  cursor_set e p port = by_tests (is_text e.mode) (p == e.page)
    where
      by_tests : (a b : Bool) → ((a && b) ≡ true → cursor_address e p < 65536) → (run card_meaning (let q : Plan (Unit {0}) = (if a
          then (if b then write_crtc_word_plan e.crtc_address 0x0E (cursor_address e p) else Done tt) else Done tt) in q) c).0
          ≡ with_crtc c (crtc_registers row type start (if a && b then cursor_address e p else location)) (if a && b then 0x0F else c.crtc.index)
      by_tests true true small = ap (λ q. (run card_meaning (write_crtc_word_plan q 0x0E (cursor_address e p)) c).0) port ∙ location_set (cursor_address e p) (small refl)
      by_tests true false small = ap (λ x. with_crtc c x c.crtc.index) r
      by_tests false b small = ap (λ x. with_crtc c x c.crtc.index) r

-- ---- the cursor location that is shown

-- in text it is the data's; in graphics, which shows no cursor, it stays
location_is : (row : ModeRow) (e : BiosData) (type start n : ℕ) → (is_text e.mode ≡ true → cursor_address e e.page ≡ n) →
    cursor_location_shown e (crtc_registers row type start n) ≡ n
location_is row e type start n h = by_kind (is_text e.mode) refl
  where
    by_kind : (b : Bool) → is_text e.mode ≡ b → (if b then cursor_address e e.page else 256 * (n / 256) + n % 256) ≡ n
    by_kind true t = h t
    by_kind false t = two_bytes n

-- the active page's cursor location, after the cursor of page p was set
at_cursor : (e : BiosData) (p location : ℕ) → is_text e.mode ≡ true → (p ≢ e.page → cursor_address e e.page ≡ location) →
    cursor_address e e.page ≡ (if is_text e.mode && (p == e.page) then cursor_address e p else location)
at_cursor e p location t other =
    ⊎_elim
    (λ (same : p ≡ e.page). let test : (p == e.page) ≡ true = grind (arith, nat_tests) in ap (cursor_address e) (sym same) ∙ sym (tested true test))
    (λ (apart : p ≢ e.page). let test : (p == e.page) ≡ false = grind (arith, nat_tests) in other apart ∙ sym (tested false test))
    (cases_eq p e.page)
  where
    tested : (b : Bool) → (p == e.page) ≡ b → (if is_text e.mode && (p == e.page) then cursor_address e p else location)
        ≡ (if b then cursor_address e p else location)
    tested b test = ap (λ x. if x && (p == e.page) then cursor_address e p else location) t ∙ ap (λ x. if x then cursor_address e p else location) test

-- ---- the services

-- a plan that answers BIOS data, as a service whose registers stay the same
abbrev pub then_data : Plan BiosData → Regs → Plan ServiceOutcome
then_data p r = p >>= λ after. Done (r, after)

pub data_runs : (p : Plan BiosData) (r : Regs) (c : CardState) → run card_meaning (then_data p r) c
    ≡ (let x = run card_meaning p c in let y : CardState × ServiceOutcome = (x.0, (r, x.1)) in y)
data_runs p r c = run_bind card_meaning p (λ after. Done (r, after)) c

same_test : (n : ℕ) → (n == n) ≡ true
same_test n = grind (arith, nat_tests)

-- the data are still the mode's, with another active page
page_data : (row : ModeRow) (d : BiosData) (page : ℕ) → has_bios_data_of_mode row d ≡ true → page < row.pages → has_bios_data_of_mode row (with_page d page) ≡ true
page_data row d page h l =
    let a = both_true (d.columns == row.columns) _ h in
    let b = both_true (d.size == row.size) _ a.1 in
    let e = both_true (d.last_row == row.last_row) _ b.1 in
    let f = both_true (d.height == row.height) _ e.1 in
    let g = both_true (d.crtc_address == row.crtc_address) _ f.1 in
    both_are (d.columns == row.columns) _ a.0 (both_are (d.size == row.size) _ b.0 (both_are (d.last_row == row.last_row) _ e.0
    (both_are (d.height == row.height) _ f.0 (both_are (d.crtc_address == row.crtc_address) _ g.0
    (both_are (d.size * page == d.size * page) (nat_lt page row.pages) (same_test (d.size * page)) (lt_test page row.pages l))))))

module _ (c : CardState) (d : BiosData) (h : IsAny c d) where
  abbrev s : Screen
  s = any_screen c d h c

  abbrev start : ℕ
  start = start_address d d.page

  abbrev location : ℕ
  location = cursor_location_shown d c.crtc.registers

  -- in text the location is that of the active page's cursor
  here : is_text d.mode ≡ true → cursor_address d d.page ≡ location
  here t = sym (ap (λ b. if b then cursor_address d d.page else 256 * slice_index c.crtc.registers 0x0E + slice_index c.crtc.registers 0x0F) t)

  -- if registers and data agree, the screen with another cursor or another page is shown
  other_data : (type : ℕ) (places : List ℕ) (page start n i : ℕ) → (let e = with_cursors d type places page start in has_bios_data_of_mode h.row e ≡ true →
      (is_text d.mode ≡ true → cursor_address e page ≡ n) →
      shown (with_crtc c (crtc_registers h.row type (start_address e page) n) i) e ≡ Some (record s { cursor_type = type; places = places; page = page }))
  other_data type places page start n i data_test at =
      let e = with_cursors d type places page start in
      let begin = start_address e page in
      let y = with_crtc c (crtc_registers h.row type begin n) i in
      let t = h.tests in
      ap (λ x. screen_shown_in_mode x y e) h.mode
      ∙ ap (λ b. if b then Some (screen_of h.row y e) else None) (shows_by h.row y e (record {
        memory = t.memory;
        data_test = data_test;
        crtc = sym (ap (crtc_registers h.row type begin) (location_is h.row e type begin n at));
        attribute = t.attribute;
      }))
      ∙ ap (λ (x : Screen). Some x) (h.screen y type places page start)

  -- function 01
  pub set_cursor_type : (type : ℕ) (fonts : FontSet) (r : Regs) (block : List ℕ) → ServiceActsAsOnScreen (SetCursorType type) fonts r block c d s
  unfolding plan_of_service cursor_type_plan refusal_in_mode refusal_on next answer_on
  set_cursor_type type fonts r block =
      let e : BiosData = record d { cursor_type = type } in
      let runs : (run card_meaning (write_crtc d.crtc_address 0x0A (high type) >> write_crtc d.crtc_address 0x0B (low type)) c).0
      ≡ with_crtc c (crtc_registers h.row type start location) 0x0B =
      ap (λ q. (run card_meaning (write_crtc q 0x0A (high type) >> write_crtc q 0x0B (low type)) c).0) h.port
      ∙ type_set c h.row d.cursor_type start location h.tests.crtc type in
      record {
        refusal = refl;
        answer = λ _. refl;
        shows = λ _. ap (λ x. shown x e) runs ∙ other_data type d.cursor_places d.page d.start location 0x0B h.tests.data_test here;
        beam = plan_beam (write_crtc d.crtc_address 0x0A (high type) >> write_crtc d.crtc_address 0x0B (low type)) c;
      }

  -- no cursor location is above 65535
  location_small : (p place : ℕ) → is_text d.mode ≡ true → p < h.row.pages → place < 65536 →
      d.size * p / 2 + (d.columns * (place / 256) + place % 256) < 65536
  location_small p place t lp l =
      let at : start_address d p ≡ d.size * p / 2 = ap (λ b. if b then d.size * p / 2 else d.size * p) t in
      let low_start = h.few t p lp in
      let columns : d.columns ≤ 80 = let a = (data_is h.row d h.tests.data_test).columns in let b = h.columns in omega arith in
      let few = few_cells d.columns place columns l in
      omega arith

  -- the cursor of a page moves: in the data, and for the active page in text in the registers too
  pub moved_shown : (p place : ℕ) → IsBda d → p < h.row.pages → place < 65536 →
      (let x = run card_meaning (move_cursor_plan d p place) c in shown x.0 x.1) ≡ Some (placed_on s p place)
  unfolding move_cursor_plan
  moved_shown p place bda lp l =
      let e = with_position d p place in
      let few = h.pages in
      let eight = bda.places in
      let new : cursor_position_of e p ≡ place = get_or-set_same d.cursor_places p place 0 (omega arith) in
      let at : cursor_address e p ≡ d.size * p / 2 + (d.columns * (place / 256) + place % 256) =
      ap (λ k. d.size * p / 2 + (d.columns * (k / 256) + k % 256)) new in
      let runs = cursor_set c h.row d.cursor_type start location h.tests.crtc e p h.port (λ b.
      let small = location_small p place (both_true (is_text d.mode) (p == d.page) b).0 lp l in omega arith) in
      let done : Plan BiosData = Done e in
      ap (λ x. shown x.0 x.1) (run_bind card_meaning (show_cursor_plan e p) (λ _. done) c)
      ∙ ap (λ x. shown x e) runs
      ∙ other_data d.cursor_type e.cursor_places d.page d.start (if is_text d.mode && (p == d.page) then cursor_address e p else location)
      (if is_text d.mode && (p == d.page) then 0x0F else c.crtc.index) h.tests.data_test (λ t. at_cursor e p location t (λ apart.
      ap (λ k. d.size * d.page / 2 + (d.columns * (k / 256) + k % 256)) (get_or-set_other d.cursor_places p d.page place 0 (λ q. apart (sym q))) ∙ here t))

  -- function 02
  pub set_cursor : (page place : ℕ) (fonts : FontSet) (r : Regs) (block : List ℕ) → place < 65536 → IsBda d →
      ServiceActsAsOnScreen (SetCursor page place) fonts r block c d s
  unfolding plan_of_service refusal_in_mode refusal_on next answer_on
  set_cursor page place fonts r block l bda =
      let p = page_or_0_in_mode_of_one_page d page in
      let named : p ≡ page_or_0_on_screen_of_one_page s page = any_meant c d h page in
      let plan = move_cursor_plan d p place in
      let runs = data_runs plan r c in
      record {
        refusal = ap (λ n. no_page n (page_or_0_if_only_one n page)) (pages_are h.row d h.mode);
        answer = λ _. ap (λ x. x.1.0) runs;
        shows = λ allowed.
            let lp : p < h.row.pages = let w = page_allowed h.row.pages (page_or_0_on_screen_of_one_page s page) allowed in omega arith in
            ap (λ x. shown x.0 x.1.1) runs
            ∙ moved_shown p place bda lp l
            ∙ ap (λ n. Some (placed_on s n place)) named;
        beam = plan_beam (then_data plan r) c;
      }

  -- another page is shown from its start on, with its own cursor
  page_shown : (page : ℕ) → IsBda d → page < h.row.pages → (let x = run card_meaning (show_page_plan d page) c in shown x.0 x.1) ≡ Some (record s { page = page })
  unfolding show_page_plan
  page_shown page bda lp =
      let e = with_page d page in
      let n = start_address d page in
      let c1 = with_crtc c (crtc_registers h.row d.cursor_type n location) 0x0D in
      let first : (run card_meaning (write_crtc_word_plan d.crtc_address 0x0C n) c).0 ≡ c1 =
      ap (λ q. (run card_meaning (write_crtc_word_plan q 0x0C n) c).0) h.port
      ∙ start_set c h.row d.cursor_type start location h.tests.crtc n (h.starts page lp) in
      let runs = cursor_set c1 h.row d.cursor_type n location refl e page h.port (λ b.
      location_small page (cursor_position_of d page) (both_true (is_text d.mode) (page == page) b).0 lp (bda.words page)) in
      let done : Plan BiosData = Done e in
      let cursor : Plan BiosData = show_cursor_plan e page >> done in
      ap (λ x. shown x.0 x.1) (run_bind card_meaning (write_crtc_word_plan d.crtc_address 0x0C n) (λ _. cursor) c)
      ∙ ap (λ x. let z = run card_meaning cursor x in shown z.0 z.1) first
      ∙ ap (λ x. shown x.0 x.1) (run_bind card_meaning (show_cursor_plan e page) (λ _. done) c1)
      ∙ ap (λ x. shown x e) runs
      ∙ other_data d.cursor_type d.cursor_places page (d.size * page) (if is_text d.mode && (page == page) then cursor_address e page else location)
      (if is_text d.mode && (page == page) then 0x0F else 0x0D) (page_data h.row d page h.tests.data_test lp) (λ t.
      at_cursor e page location t (λ apart. absurd (apart refl)))

  -- function 05
  pub select_page : (page : ℕ) (fonts : FontSet) (r : Regs) (block : List ℕ) → IsBda d → ServiceActsAsOnScreen (SelectPage page) fonts r block c d s
  unfolding plan_of_service refusal_in_mode refusal_on next answer_on
  select_page page fonts r block bda =
      let plan = show_page_plan d page in
      let runs = data_runs plan r c in
      record {
        refusal = ap (λ n. no_page n page) (pages_are h.row d h.mode);
        answer = λ _. ap (λ x. x.1.0) runs;
        shows = λ allowed. ap (λ x. shown x.0 x.1.1) runs ∙ page_shown page bda (page_allowed h.row.pages page allowed);
        beam = plan_beam (then_data plan r) c;
      }
