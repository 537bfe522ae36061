-- Every call keeps the BIOS data valid, and their cursor positions words.
use Rattle.std.proofs.Common.{◌≡◌, ◌≢◌, ℕ, zero, suc, ◌+◌, ◌-◌, ◌<◌, ◌≤◌, inl, refl, ◌∙◌, arith, List, [], ◌∷◌, length, get_or, set, replicate, Option, Some}
use Rattle.std.proofs.Common.{None, IfSome, Bool, true, false}
use Rattle.std.specs.Prelude.{◌==◌, ◌&&◌, nat_lt, if◌then◌else◌}
use Rattle.std.proofs.lemmas.Bool.Decides.{nat_tests}
use Rattle.std.proofs.lemmas.List.{length-set}
use Rattle.vga_bits.specs.declared.refusal.Refusal.{Refusal}
use Rattle.vga_bits.specs.declared.refusal.Refusal.TheVariants.{BadPage, Outside}
use Rattle.vga_card.specs.Card.{CardState}
use Rattle.vga_card.specs.Bus.{BusMeaning, card_meaning}
use Rattle.bios_modes.specs.declared.modes.ModeRow.{ModeRow}
use Rattle.bios_modes.specs.Modes.{mode_row}
use Rattle.bios_modes.specs.Heights.{mode_row_at_height}
use Rattle.bios_modes.specs.Bda.{BiosData, power_on_data}
use Rattle.bios_modes.specs.Begin.{data_of_mode}
use Rattle.bios_modes.specs.Fonts.{FontSet}
use Rattle.bios_services.specs.declared.regs.Regs.{Regs}
use Rattle.bios_services.specs.declared.colouring.Colouring.{Colouring}
use Rattle.bios_services.specs.declared.strings.StringCall.{StringCall}
use Rattle.bios_services.specs.declared.tables.TableService.{TableService}
use Rattle.bios_services.specs.declared.glyph_load.GlyphLoad.{GlyphLoad}
use Rattle.bios_services.specs.declared.call.Call.{Call}
use Rattle.bios_services.specs.declared.call.Call.TheVariants.{SetMode, ReadTable, LoadGlyphs, InMode}
use Rattle.bios_services.specs.declared.call.Service.{Service}
use Rattle.bios_services.specs.declared.call.Service.TheVariants.{SetCursorType, SetCursor, ReadCursor, SelectPage, ScrollUp, ScrollDown, ReadCell, WriteCells}
use Rattle.bios_services.specs.declared.call.Service.TheVariants.{WritePixel, ReadPixel, Teletype, ReadMode, Colours, ReadAdapter, WriteString, ReadDisplay}
use Rattle.bios_services.specs.Plan.{Plan, Done, Write, Read, ◌>>=◌, ◌>>◌, run, read_byte_or_ff, fold}
use Rattle.bios_services.specs.Registers.{high, low}
use Rattle.bios_services.specs.Bounds.{IsModeSet, page_count}
use Rattle.bios_services.specs.Data.{AreValidData}
use Rattle.bios_services.specs.Cursor.{row_of_position, column_of_position, cell_number_at, cursor_position_of, with_position, with_page, start_address, write_crtc_word_plan, show_cursor_plan, move_cursor_plan}
use Rattle.bios_services.specs.Cursor.{cursor_type_plan, show_page_plan}
use Rattle.bios_services.specs.declared.direction.Direction.TheVariants.{Up, Down}
use Rattle.bios_services.specs.Drawing.{character_plan}
use Rattle.bios_services.specs.CellRuns.{cell_run_plan}
use Rattle.bios_services.specs.Scroll.{scroll_page_up_by_a_row_plan, scroll_plan}
use Rattle.bios_services.specs.Pixels.{write_pixel_plan}
use Rattle.bios_services.specs.Teletype.{position_at_start_of_row, pixel_colouring, line_feed_fill, line_feed_plan, next_position_plan, write_and_advance_plan, type_character_plan, teletype_plan}
use Rattle.bios_services.specs.Strings.{string_block_len, character_at, colouring_of_character, type_string_plan, string_plan}
use Rattle.bios_services.specs.ModeSet.{mode_set_plan}
use Rattle.bios_services.specs.Reasons.{no_page, outside_page, wrong_block}
use Rattle.bios_services.specs.Colours.{colours_plan}
use Rattle.bios_services.specs.Tables.{table_refusal, table_plan}
use Rattle.bios_services.specs.GlyphLoads.{glyph_load_of, load_refusal, load_plan}
use Rattle.bios_services.specs.Refusals.{service_with_page_or_0_if_only_one, refusal_in_mode_besides_block, refusal_in_mode}
use Rattle.bios_services.specs.declared.colours.ColourService.TheVariants.{ReadMask}
use Rattle.bios_services.specs.Calls.{colours_call, colour_call_of, service_of, call_in_mode, call_of, glyph_load_or}
use Rattle.bios_services.specs.Service.{ServiceOutcome, CallOutcome, answer_of_registers, answer_with, call_plan, service_in_mode_plan, load_if_height_exists, load_unless_refused_plan, load_in_mode_plan, plan_of_service}
use Rattle.bios_services.specs.Service.{read_cell_service, read_pixel_service, service, set_mode_plan, table_in_mode_plan, table_unless_refused_plan, unless_refused_plan}
use Rattle.bios_services.proofs.ReasonLemmas.{neither, holds}
use Rattle.bios_services.proofs.BoundLemmas.{set_of_valid, stays_valid, begins_valid, begins_valid_at}

-- ---- what holds for the answer of a plan, whatever bytes it reads

abbrev Always : {A : Type 0} → (A → Type 0) → Plan A → Type 0
Always P (Done a) = P a
Always P (Write place v rest) = Always P rest
Always P (Read place rest) = (b : ℕ) → Always P (rest b)

-- it holds on each bus
always_runs : {S A : Type 0} (P : A → Type 0) (m : BusMeaning S) (p : Plan A) (s : S) → Always P p → P (run m p s).1
always_runs P m (Done a) s h = h
always_runs P m (Write place v rest) s h = always_runs P m rest (m.write s place v).0 h
always_runs P m (Read place rest) s h = let r = m.read s place in always_runs P m (rest (read_byte_or_ff r.1)) r.0 (h (read_byte_or_ff r.1))

-- for one plan and then another, if it holds for the second
then_always : {A B : Type 0} (P : B → Type 0) (p : Plan A) (f : A → Plan B) → ((a : A) → Always P (f a)) → Always P (p >>= f)
then_always P (Done a) f k = k a
then_always P (Write place v rest) f k = then_always P rest f k
then_always P (Read place rest) f k = λ b. then_always P (rest b) f k

-- and if the first answers what the second needs
then_always_such : {A B : Type 0} (Q : A → Type 0) (P : B → Type 0) (p : Plan A) (f : A → Plan B) → Always Q p → ((a : A) → Q a → Always P (f a)) →
    Always P (p >>= f)
then_always_such Q P (Done a) f h k = k a h
then_always_such Q P (Write place v rest) f h k = then_always_such Q P rest f h k
then_always_such Q P (Read place rest) f h k = λ b. then_always_such Q P (rest b) f (h b) k

-- for a choice
on_if : {A : Type 0} (P : A → Type 0) (b : Bool) (p q : Plan A) → (b ≡ true → Always P p) → (b ≡ false → Always P q) → Always P (if b then p else q)
on_if P true p q f g = f refl
on_if P false p q f g = g refl

lt_is : (a b : ℕ) → nat_lt a b ≡ true → a < b
lt_is a b h = grind (arith, nat_tests)

-- ---- positions

-- a position in the first fifty rows
abbrev IsNear : ℕ → Type 0
IsNear position = position < 12800

fed_near : (d : BiosData) (page position : ℕ) → d.last_row < 50 → IsNear position → Always IsNear (line_feed_plan d page position)
unfolding line_feed_plan
fed_near d page position few near =
    on_if IsNear (nat_lt (row_of_position position) d.last_row) (Done (position + 256)) _
    (λ e. let l = lt_is (row_of_position position) d.last_row e in omega arith)
    (λ e. then_always IsNear (line_feed_fill d page position) (λ colour. scroll_page_up_by_a_row_plan d page colour >> Done position)
    (λ colour. then_always IsNear (scroll_page_up_by_a_row_plan d page colour) (λ _. Done position) (λ _. near)))

start_near : (position : ℕ) → IsNear position → IsNear (position_at_start_of_row position)
start_near position near = omega arith

advanced_near : (d : BiosData) (page position : ℕ) → d.last_row < 50 → d.columns ≤ 80 → IsNear position → Always IsNear (next_position_plan d page position)
unfolding next_position_plan
advanced_near d page position few narrow near =
    on_if IsNear (nat_lt (column_of_position position + 1) d.columns) (Done (position + 1)) _
    (λ e. let l = lt_is (column_of_position position + 1) d.columns e in omega arith)
    (λ e. then_always_such IsNear IsNear (line_feed_plan d page position) (λ below. Done (position_at_start_of_row below)) (fed_near d page position few near) start_near)

back_near : (position : ℕ) (b : Bool) → IsNear position → IsNear (if b then position else position - 1)
back_near position true near = near
back_near position false near = omega arith

typed_near : (fonts : FontSet) (d : BiosData) (page position character : ℕ) (colouring : Colouring) → d.last_row < 50 → d.columns ≤ 80 → IsNear position →
    Always IsNear (type_character_plan fonts d page position character colouring)
unfolding type_character_plan write_and_advance_plan
typed_near fonts d page position character colouring few narrow near =
    on_if IsNear (character == 0x07) (Done position) _ (λ _. near)
    (λ _. on_if IsNear (character == 0x08) (Done (if column_of_position position == 0 then position else position - 1)) _ (λ _. back_near position (column_of_position position == 0) near)
    (λ _. on_if IsNear (character == 0x0A) (line_feed_plan d page position) _ (λ _. fed_near d page position few near)
    (λ _. on_if IsNear (character == 0x0D) (Done (position_at_start_of_row position)) _ (λ _. start_near position near)
    (λ _. then_always IsNear (character_plan fonts d page (cell_number_at d position) character colouring) (λ _. next_position_plan d page position) (λ _.
    advanced_near d page position few narrow near)))))

-- ---- BIOS data

set_words : (xs : List ℕ) (p v : ℕ) → v < 65536 → ((i : ℕ) → get_or xs i 0 < 65536) → (i : ℕ) → get_or (set xs p v) i 0 < 65536
set_words [] p v l h i = h i
set_words (x ∷ xs) zero v l h zero = l
set_words (x ∷ xs) zero v l h (suc i) = h (suc i)
set_words (x ∷ xs) (suc p) v l h zero = h zero
set_words (x ∷ xs) (suc p) v l h (suc i) = set_words xs p v l (λ j. h (suc j)) i

zero_words : (n i : ℕ) → get_or (replicate n 0) i 0 < 65536
zero_words zero i = omega arith
zero_words (suc n) zero = omega arith
zero_words (suc n) (suc i) = zero_words n i

-- the data at power-on
pub first_data : AreValidData power_on_data
first_data = record { valid = inl refl; words = record { places = refl; words = zero_words 8 } }

-- the data that a mode begins with
begun : (mode : ℕ) (row : ModeRow) → mode_row mode ≡ Some row → AreValidData (data_of_mode mode row)
begun mode row e = record { valid = begins_valid mode row e; words = record { places = refl; words = zero_words 8 } }

begun_at : (mode height : ℕ) (row : ModeRow) → mode_row_at_height mode height ≡ Some row → AreValidData (data_of_mode mode row)
begun_at mode height row e = record { valid = begins_valid_at mode height row e; words = record { places = refl; words = zero_words 8 } }

module _ (d : BiosData) (a : AreValidData d) (is : IsModeSet d) (unset : d.mode ≢ 0) where
  -- a cursor at another position
  placed : (page position : ℕ) → position < 65536 → AreValidData (with_position d page position)
  placed page position l = record {
    valid = stays_valid d (with_position d page position) a.valid unset (record {
      mode = refl;
      columns = refl;
      size = refl;
      last_row = refl;
      height = refl;
      crtc_address = refl;
      page = is.page;
      start = is.start;
    });
    words = record { places = length-set d.cursor_places page position ∙ a.words.places; words = set_words d.cursor_places page position l a.words.words };
  }

  moved : (page position : ℕ) → position < 65536 → Always AreValidData (move_cursor_plan d page position)
  unfolding move_cursor_plan
  moved page position l = then_always AreValidData (show_cursor_plan (with_position d page position) page) (λ _. Done (with_position d page position)) (λ _. placed page position l)

  -- another type of the cursor
  typed_cursor : (cursor_type : ℕ) → Always AreValidData (cursor_type_plan d cursor_type)
  unfolding cursor_type_plan
  typed_cursor cursor_type = record {
    valid = stays_valid d (record d { cursor_type = cursor_type }) a.valid unset (record {
      mode = refl;
      columns = refl;
      size = refl;
      last_row = refl;
      height = refl;
      crtc_address = refl;
      page = is.page;
      start = is.start;
    });
    words = record { places = a.words.places; words = a.words.words };
  }

  -- another page
  paged : (page : ℕ) → page < page_count d → Always AreValidData (show_page_plan d page)
  unfolding show_page_plan
  paged page l =
      let after : AreValidData (with_page d page) = record {
        valid = stays_valid d (with_page d page) a.valid unset (record {
          mode = refl;
          columns = refl;
          size = refl;
          last_row = refl;
          height = refl;
          crtc_address = refl;
          page = l;
          start = refl;
        });
        words = record { places = a.words.places; words = a.words.words };
      } in
      then_always AreValidData (write_crtc_word_plan d.crtc_address 0x0C (start_address d page)) (λ _. show_cursor_plan (with_page d page) page >> Done (with_page d page))
      (λ _. then_always AreValidData (show_cursor_plan (with_page d page) page) (λ _. Done (with_page d page)) (λ _. after))

  -- a character that is typed, and a string
  typed : (fonts : FontSet) (character colour : ℕ) → IsNear (cursor_position_of d d.page) → Always AreValidData (teletype_plan fonts d character colour)
  unfolding teletype_plan
  typed fonts character colour near =
      on_if AreValidData (character == 0x07) (Done d) _ (λ _. a)
      (λ _. then_always_such IsNear AreValidData (type_character_plan fonts d d.page (cursor_position_of d d.page) character (pixel_colouring colour)) (λ position. move_cursor_plan d d.page position)
      (typed_near fonts d d.page (cursor_position_of d d.page) character (pixel_colouring colour) is.rows is.columns near)
      (λ position l. moved d.page position (omega arith)))

  characters_near : (fonts : FontSet) (page : ℕ) (s : StringCall) (block : List ℕ) (n i position : ℕ) → IsNear position
      → Always IsNear (fold (λ i position. type_character_plan fonts d page position (character_at s block i) (colouring_of_character s block i)) n i position)
  characters_near fonts page s block zero i position near = near
  characters_near fonts page s block (suc n) i position near =
      let turn : ℕ → ℕ → Plan ℕ = λ i position. type_character_plan fonts d page position (character_at s block i) (colouring_of_character s block i) in
      then_always_such IsNear IsNear (turn i position) (λ next. fold turn n (i + 1) next)
      (typed_near fonts d page position (character_at s block i) (colouring_of_character s block i) is.rows is.columns near)
      (λ next l. characters_near fonts page s block n (i + 1) next l)

  string : (fonts : FontSet) (s : StringCall) (block : List ℕ) → IsNear s.position → Always AreValidData (string_plan fonts d s block)
  unfolding string_plan type_string_plan
  string fonts s block near =
      then_always_such IsNear AreValidData (type_string_plan fonts d s block) (λ position. if s.moves_cursor then move_cursor_plan d s.page position else Done d)
      (characters_near fonts s.page s block s.count 0 s.position near)
      (λ position l. on_if AreValidData s.moves_cursor (move_cursor_plan d s.page position) (Done d) (λ _. moved s.page position (omega arith)) (λ _. a))

-- ---- services that are not refused

page_allowed : (pages page : ℕ) → no_page pages page ≡ None → page < pages
page_allowed pages page h = lt_is page pages (holds (nat_lt page pages) BadPage h)

-- a position of a page is in the first fifty rows
inside_near : (d : BiosData) (position : ℕ) → d.last_row < 50 → outside_page (d.last_row + 1) d.columns position ≡ None → IsNear position
inside_near d position few h =
    let inside = holds (nat_lt (row_of_position position) (d.last_row + 1) && nat_lt (column_of_position position) d.columns) Outside h in
    let l : row_of_position position < d.last_row + 1 = grind (arith, nat_tests) in
    omega arith

-- a string that is not refused begins at one
string_near : (d : BiosData) (s : StringCall) (len : ℕ) → d.last_row < 50 → refusal_in_mode (WriteString s) d len ≡ None → IsNear s.position
unfolding refusal_in_mode
string_near d s len few h =
    let reason = neither (refusal_in_mode_besides_block (WriteString s) d) (wrong_block (string_block_len s) len) h in
    inside_near d s.position few (neither (no_page (page_count d) s.page) (outside_page (d.last_row + 1) d.columns s.position) reason.0).1

-- the position that a service names is a word
abbrev FitsWords : Service → Type 0
FitsWords (SetCursor page position) = position < 65536
FitsWords service = Unit {0}

fits_there : (d : BiosData) (asked_for : Service) → FitsWords asked_for → FitsWords (service_with_page_or_0_if_only_one d asked_for)
fits_there d (SetCursor page position) fits = fits
fits_there d (SetCursorType cursor_type) fits = tt
fits_there d (ReadCursor page) fits = tt
fits_there d (SelectPage page) fits = tt
fits_there d (ScrollUp scroll) fits = tt
fits_there d (ScrollDown scroll) fits = tt
fits_there d (ReadCell page) fits = tt
fits_there d (WriteCells cells) fits = tt
fits_there d (WritePixel page x y colour) fits = tt
fits_there d (ReadPixel page x y) fits = tt
fits_there d (Teletype character colour) fits = tt
fits_there d ReadMode fits = tt
fits_there d (Colours asked_for) fits = tt
fits_there d ReadAdapter fits = tt
fits_there d (WriteString s) fits = tt
fits_there d ReadDisplay fits = tt

-- the data that a service answers
abbrev OutcomeKept : ServiceOutcome → Type 0
OutcomeKept o = AreValidData o.1

service_keeps : (asked_for : Service) (fonts : FontSet) (d : BiosData) (r : Regs) (block : List ℕ) → FitsWords asked_for → AreValidData d → IsModeSet d → d.mode ≢ 0 →
    refusal_in_mode asked_for d (length block) ≡ None
    → Always OutcomeKept (plan_of_service asked_for fonts d r block)
unfolding plan_of_service refusal_in_mode
service_keeps (SetCursorType cursor_type) fonts d r block fits a is unset h =
    then_always_such AreValidData OutcomeKept (cursor_type_plan d cursor_type) (λ after. Done (r, after)) (typed_cursor d a is unset cursor_type) (λ after k. k)
service_keeps (SetCursor page position) fonts d r block fits a is unset h =
    then_always_such AreValidData OutcomeKept (move_cursor_plan d page position) (λ after. Done (r, after))
    (moved d a is unset page position fits) (λ after k. k)
service_keeps (ReadCursor page) fonts d r block fits a is unset h = a
service_keeps (SelectPage page) fonts d r block fits a is unset h =
    then_always_such AreValidData OutcomeKept (show_page_plan d page) (λ after. Done (r, after)) (paged d a is unset page (page_allowed (page_count d) page h)) (λ after k. k)
service_keeps (ScrollUp scroll) fonts d r block fits a is unset h = then_always OutcomeKept (scroll_plan d scroll Up) (λ _. Done (r, d)) (λ _. a)
service_keeps (ScrollDown scroll) fonts d r block fits a is unset h = then_always OutcomeKept (scroll_plan d scroll Down) (λ _. Done (r, d)) (λ _. a)
service_keeps (ReadCell page) fonts d r block fits a is unset h = then_always OutcomeKept (read_cell_service fonts page d r) (λ after.
    Done (after, d)) (λ _. a)
service_keeps (WriteCells cells) fonts d r block fits a is unset h = then_always OutcomeKept (cell_run_plan fonts d cells) (λ _.
    Done (r, d)) (λ _. a)
service_keeps (WritePixel page x y colour) fonts d r block fits a is unset h = then_always OutcomeKept (write_pixel_plan d page x y colour) (λ _.
    Done (r, d)) (λ _. a)
service_keeps (ReadPixel page x y) fonts d r block fits a is unset h = then_always OutcomeKept (read_pixel_service page x y d r) (λ after.
    Done (after, d)) (λ _. a)
service_keeps (Teletype character colour) fonts d r block fits a is unset h =
    then_always_such AreValidData OutcomeKept (teletype_plan fonts d character colour) (λ after. Done (r, after))
    (typed d a is unset fonts character colour (inside_near d (cursor_position_of d d.page) is.rows h)) (λ after k. k)
service_keeps ReadMode fonts d r block fits a is unset h = a
service_keeps (Colours asked_for) fonts d r block fits a is unset h = then_always OutcomeKept (colours_plan asked_for d.crtc_address r block) (λ after.
    Done (after, d)) (λ _. a)
service_keeps ReadAdapter fonts d r block fits a is unset h = a
service_keeps (WriteString s) fonts d r block fits a is unset h =
    then_always_such AreValidData OutcomeKept (string_plan fonts d s block) (λ after. Done (r, after))
    (string d a is unset fonts s block (string_near d s (length block) is.rows h)) (λ after k. k)
service_keeps ReadDisplay fonts d r block fits a is unset h = a

-- ---- calls

abbrev AnswerKept : CallOutcome → Type 0
AnswerKept x = AreValidData x.1

-- data of a mode that is set
mode_is_set : (mode : ℕ) → (mode == 0) ≡ false → mode ≢ 0
mode_is_set mode e f = grind (arith, nat_tests)

in_mode_keeps : (asked_for : Service) (fonts : FontSet) (d : BiosData) (r : Regs) (block : List ℕ) → FitsWords asked_for → AreValidData d →
    Always AnswerKept (service_in_mode_plan asked_for fonts d r block)
unfolding service_in_mode_plan unless_refused_plan
in_mode_keeps asked_for fonts d r block fits a =
    on_if AnswerKept (d.mode == 0) _ (unless_refused_plan (refusal_in_mode there d (length block)) there fonts d r block) (λ _. a) (λ e.
    by_refusal (mode_is_set d.mode e) (refusal_in_mode there d (length block)) refl)
  where
    there : Service
    there = service_with_page_or_0_if_only_one d asked_for

    by_refusal : d.mode ≢ 0 → (x : Option Refusal) → refusal_in_mode there d (length block) ≡ x → Always AnswerKept (unless_refused_plan x there fonts d r block)
    by_refusal unset (Some why) e = a
    by_refusal unset None e =
        then_always_such OutcomeKept AnswerKept (plan_of_service there fonts d r block) (λ outcome. Done (answer_of_registers outcome.0 outcome.1))
        (service_keeps there fonts d r block (fits_there d asked_for fits) a (set_of_valid d a.valid unset) unset e) (λ outcome k. k)

table_keeps : (asked_for : TableService) (d : BiosData) (r : Regs) → AreValidData d → Always AnswerKept (table_in_mode_plan asked_for d r)
unfolding table_in_mode_plan table_unless_refused_plan
table_keeps asked_for d r a =
    on_if AnswerKept (d.mode == 0) _ (table_unless_refused_plan (table_refusal asked_for) asked_for d r) (λ _. a) (λ _. by_refusal (table_refusal asked_for))
  where
    by_refusal : (x : Option Refusal) → Always AnswerKept (table_unless_refused_plan x asked_for d r)
    by_refusal (Some why) = a
    by_refusal None = then_always AnswerKept (table_plan asked_for d.crtc_address) (λ table. Done (answer_with table r d)) (λ _. a)

set_mode_keeps : (x : Option ModeRow) (mode : ℕ) (keeps : Bool) (fonts : FontSet) (d : BiosData) (r : Regs) → mode_row mode ≡ x → AreValidData d →
    Always AnswerKept (set_mode_plan x mode keeps fonts d r)
unfolding set_mode_plan
set_mode_keeps None mode keeps fonts d r e a = a
set_mode_keeps (Some row) mode keeps fonts d r e a = then_always AnswerKept (mode_set_plan row keeps fonts) (λ _. Done (answer_of_registers r (data_of_mode mode row)))
    (λ _. begun mode row e)

load_keeps : (x : Option ModeRow) (load : GlyphLoad) (fonts : FontSet) (d : BiosData) (r : Regs) (block : List ℕ) → mode_row_at_height d.mode load.height ≡ x → AreValidData d →
    Always AnswerKept (load_if_height_exists x load fonts d r block)
unfolding load_if_height_exists
load_keeps None load fonts d r block e a = a
load_keeps (Some row) load fonts d r block e a = then_always AnswerKept (load_plan fonts load block row) (λ _. Done (answer_of_registers r (data_of_mode d.mode row))) (λ _.
    begun_at d.mode load.height row e)

load_in_mode_keeps : (load : GlyphLoad) (fonts : FontSet) (d : BiosData) (r : Regs) (block : List ℕ) → AreValidData d →
    Always AnswerKept (load_in_mode_plan load fonts d r block)
unfolding load_in_mode_plan load_unless_refused_plan
load_in_mode_keeps load fonts d r block a =
    on_if AnswerKept (d.mode == 0) _ (load_unless_refused_plan (load_refusal load d.mode (length block)) load fonts d r block) (λ _. a) (λ _.
    by_refusal (load_refusal load d.mode (length block)))
  where
    by_refusal : (x : Option Refusal) → Always AnswerKept (load_unless_refused_plan x load fonts d r block)
    by_refusal (Some why) = a
    by_refusal None = load_keeps (mode_row_at_height d.mode load.height) load fonts d r block refl a

-- a call whose service names a word
abbrev CallFits : Option Call → Type 0
CallFits (Some (InMode asked_for)) = FitsWords asked_for
CallFits call = Unit {0}

asked_keeps : (call : Option Call) (fonts : FontSet) (d : BiosData) (r : Regs) (block : List ℕ) → CallFits call → AreValidData d →
    Always AnswerKept (call_plan call fonts d r block)
asked_keeps None fonts d r block fits a = a
asked_keeps (Some (SetMode mode keeps)) fonts d r block fits a = set_mode_keeps (mode_row mode) mode keeps fonts d r refl a
asked_keeps (Some (ReadTable asked_for)) fonts d r block fits a = table_keeps asked_for d r a
asked_keeps (Some (LoadGlyphs load)) fonts d r block fits a = load_in_mode_keeps load fonts d r block a
asked_keeps (Some (InMode asked_for)) fonts d r block fits a = in_mode_keeps asked_for fonts d r block fits a

-- ---- the service that registers ask for

choose : (b : Bool) (x y : Option Service) → IfSome x FitsWords → IfSome y FitsWords → IfSome (if b then x else y) FitsWords
choose true x y f g = f
choose false x y f g = g

service_fits : (r : Regs) → r.dx < 65536 → IfSome (service_of r) FitsWords
service_fits r l =
    choose (high r.ax == 0x01) _ _ tt
    (choose (high r.ax == 0x02) _ _ l
    (choose (high r.ax == 0x03) _ _ tt
    (choose (high r.ax == 0x05) _ _ tt
    (choose (high r.ax == 0x06) _ _ tt
    (choose (high r.ax == 0x07) _ _ tt
    (choose (high r.ax == 0x08) _ _ tt
    (choose (high r.ax == 0x09) _ _ tt
    (choose (high r.ax == 0x0A) _ _ tt
    (choose (high r.ax == 0x0C) _ _ tt
    (choose (high r.ax == 0x0D) _ _ tt
    (choose (high r.ax == 0x0E) _ _ tt
    (choose (high r.ax == 0x0F) _ _ tt
    (choose ((high r.ax == 0x12) && (low r.bx == 0x10)) _ _ tt
    (choose ((high r.ax == 0x13) && nat_lt (low r.ax) 4) _ _ tt
    (choose ((high r.ax == 0x1A) && (low r.ax == 0x00)) (Some ReadDisplay) None tt tt)))))))))))))))

choose_call : (b : Bool) (x y : Option Call) → CallFits x → CallFits y → CallFits (if b then x else y)
choose_call true x y f g = f
choose_call false x y f g = g

colours_fit : (r : Regs) → CallFits (colour_call_of r)
colours_fit r =
    let al = low r.ax in
    choose_call (al == 0x00) _ _ tt
    (choose_call (al == 0x01) _ _ tt
    (choose_call (al == 0x02) _ _ tt
    (choose_call (al == 0x03) _ _ tt
    (choose_call (al == 0x07) _ _ tt
    (choose_call (al == 0x08) _ _ tt
    (choose_call (al == 0x09) _ _ tt
    (choose_call (al == 0x10) _ _ tt
    (choose_call (al == 0x12) _ _ tt
    (choose_call (al == 0x15) _ _ tt
    (choose_call (al == 0x17) _ _ tt
    (choose_call (al == 0x18) _ _ tt
    (choose_call (al == 0x19) (colours_call ReadMask) None tt tt))))))))))))

call_fits : (r : Regs) → r.dx < 65536 → CallFits (call_of r)
call_fits r l =
    choose_call (high r.ax == 0x00) _ _ tt
    (choose_call (high r.ax == 0x10) _ _ (colours_fit r)
    (glyphs_or_fits (glyph_load_of r) _ (in_mode_fits (service_of r) (service_fits r l))))
  where
    in_mode_fits : (x : Option Service) → IfSome x FitsWords → CallFits (call_in_mode x)
    in_mode_fits None f = tt
    in_mode_fits (Some asked_for) f = f

    glyphs_or_fits : (g : Option GlyphLoad) (x : Option Call) → CallFits x → CallFits (glyph_load_or g x)
    glyphs_or_fits None x f = f
    glyphs_or_fits (Some load) x f = tt

-- so a call keeps the BIOS data valid, and their cursor positions words
pub data_stay : (fonts : FontSet) (d : BiosData) (r : Regs) (block : List ℕ) (c : CardState) → r.dx < 65536 → AreValidData d →
    AreValidData (run card_meaning (service fonts d r block) c).1.1
data_stay fonts d r block c l a = always_runs AnswerKept card_meaning (service fonts d r block) c (asked_keeps (call_of r) fonts d r block (call_fits r l) a)
