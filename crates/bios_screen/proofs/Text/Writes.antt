-- Writing and reading cells of text: where they lie, and which screen is then shown.
use Rattle.std.proofs.Common.{◌≡◌, ℕ, ◌+◌, ◌-◌, ◌*◌, ◌/◌, ◌<◌, ◌≤◌, refl, sym, ap, ◌∙◌, arith, Some}
use Rattle.std.specs.Prelude.{if◌then◌else◌}
use Rattle.bios_screen.proofs.Prelude.{IsCard, card_meaning, CardState, BiosData, FontSet, Regs, Colouring, Plan, run, Done, get, each, ◌>>=◌, page_0_address_of_mode}
use Rattle.bios_screen.proofs.Prelude.{cells_per_page, Cell, Screen, cell_in, text_memory_cells, shown}
use Rattle.bios_services.specs.Cells.{cell_address, read_cell_plan, write_cell_plan}
use Rattle.bios_services.specs.Cursor.{cursor_cell_number}
use Rattle.bios_services.specs.Drawing.{cell_band, cell_row, character_plan_of_kind, characters_plan}
use Rattle.bios_services.specs.CharacterReading.{read_character_plan}
use Rattle.bios_services.specs.Registers.{with_low}
use Rattle.bios_services.specs.Service.{read_cell_service}
use Rattle.bios_screen.specs.Step.{character_over, cell_on, cell_answer, write_characters, put_characters}
use Rattle.bios_screen.proofs.Base.Flat.{set_cell}
use Rattle.bios_screen.proofs.Base.Plans.{run_bind}
use Rattle.bios_screen.proofs.Base.Edits.{changed_edit, edits}
use Rattle.bios_screen.proofs.Base.Places.{twice, ends_before}
use Rattle.bios_screen.proofs.Base.Tests.{of_run}
use Rattle.bios_screen.proofs.Modes.TextModes.{Display, base_of}
use Rattle.bios_screen.proofs.Text.Memory.{without_text}
use Rattle.bios_screen.proofs.Text.Cells.{IsCells, IsRead, has_cells, cell_written, character_get, attribute_get, attribute_small}
use Rattle.bios_screen.proofs.Shows.Screens.{IsShown, screen_shown, kind_is}
use Rattle.bios_screen.proofs.Text.NewCells.{cells_at, renewed_shown, same_shown}

-- ---- where a page's cells are

-- the pages lie within text memory
pub record Lies (d : BiosData) (disp : Display) (pages : ℕ) : Type 0 where
  pub base : page_0_address_of_mode d.mode ≡ base_of disp
  pub even : (p : ℕ) → d.size * p ≡ 2 * (d.size / 2 * p)
  pub fits : d.columns * (d.last_row + 1) ≤ d.size / 2
  pub within : (p : ℕ) → p < pages → d.size / 2 * p + d.size / 2 ≤ 16384

pub lies : (c : CardState) (d : BiosData) (h : IsShown c d) → Lies d h.display h.row.pages
lies c d h =
    let half = h.text.half in
    let size : d.size ≡ 2 * half = h.has.size ∙ h.text.even in
    let halved : d.size / 2 ≡ half = omega arith in
    record {
      base = h.text.base;
      even = λ p. ap (λ n. n * p) size ∙ twice half p ∙ ap (λ n. 2 * (n * p)) (sym halved);
      fits =
          let a : d.columns * (d.last_row + 1) ≡ h.row.columns * (h.row.last_row + 1) = ap (λ n. n * (d.last_row + 1)) h.has.columns
          ∙ ap (λ n. h.row.columns * (n + 1)) h.has.last_row in
          let b = h.text.fits in
          omega arith;
      within = λ p l.
          let a : d.size / 2 * p ≡ half * p = ap (λ n. n * p) halved in
          let b = ends_before half p h.row.pages l in
          let m = h.text.memory in
          omega arith;
    }

-- the address of cell q of a page
pub address_is : (d : BiosData) (disp : Display) (pages p q : ℕ) → Lies d disp pages → cell_address d p q ≡ base_of disp + 2 * (d.size / 2 * p + q)
address_is d disp pages p q w =
    let e = w.even p in
    let n = d.size / 2 * p in
    ap (λ b. b + d.size * p + 2 * q) w.base ∙ ap (λ s. base_of disp + s + 2 * q) e ∙ sum (base_of disp) n
  where
    sum : (b n : ℕ) → b + 2 * n + 2 * q ≡ b + 2 * (n + q)
    sum b n = omega arith

-- ---- a run of cells of a page is written

module _ (fonts : FontSet) (c : CardState) (d : BiosData) (h : IsShown c d) (z : IsCard c) (p q n v : ℕ) (colouring : Colouring) (lp : p < h.row.pages)
    (lq : q + n ≤ cells_per_page d) (lv : v < 256) (la : colouring.colour < 256) where
  abbrev first : ℕ
  first = d.size / 2 * p + q

  abbrev plan : ℕ → Plan (Unit {0})
  plan i = write_cell_plan (cell_address d p (q + i)) v colouring

  -- in text the plan of a run of characters writes its cells one by one
  characters_are : characters_plan fonts d p q v colouring n ≡ each plan n 0
  unfolding characters_plan character_plan_of_kind
  characters_are = ap (λ k. each (λ i. character_plan_of_kind k fonts d p (q + i) v colouring) n 0) (kind_is c d h)

  pub characters_shown : shown (run card_meaning (characters_plan fonts d p q v colouring n) c).0 d
      ≡ Some (put_characters fonts (screen_shown c d h) p q n v colouring)
  characters_shown =
      let m = c.host.memory in
      let disp = h.display in
      let rest = without_text c in
      let f = cell_in m.plane0 m.plane1 in
      let w = lies c d h in
      let room : first + n ≤ 16384 = let b = w.fits in let e = w.within p lp in omega arith in
      let done = edits CardState Cell card_meaning plan (λ _. IsCells disp rest) 0 n (λ _. Unit {0}) (λ i _. first + i) (λ i _ y. character_over v colouring y)
      (λ i j _ _ lb lo hi. omega arith)
      (λ i y g lb l u. record {
        cells = set_cell g (first + i) (character_over v colouring (g (first + i)));
        shown = cell_written disp rest y g (cell_address d p (q + i)) (first + i) v colouring
            (let e = address_is d disp h.row.pages p (q + i) w in omega arith) (omega arith) lv la u;
        fact = changed_edit (first + i) (character_over v colouring) g;
      })
      n 0 c f (omega arith) (omega arith) (has_cells disp c h.setting z.host) in
      let new = done.cells in
      ap (λ x. shown (run card_meaning x c).0 d) characters_are
      ∙ renewed_shown disp rest c (run card_meaning (each plan n 0) c).0 d h (write_characters first n v colouring) new done.shown.is.others done.shown
      (λ k l.
      let same = cells_at m.plane0 m.plane1 text_memory_cells k l in
      let old = cell_on (screen_shown c d h) in
      of_run first n k (new k) (character_over v colouring (old k)) (old k)
      (λ lo hi.
      let there : first + (k - first) ≡ k = omega arith in
      ap new (sym there) ∙ done.fact.inside (record { turn = k - first; from = omega arith; before = omega arith; place = tt })
      ∙ ap (λ i. character_over v colouring (f i)) there ∙ ap (character_over v colouring) (sym same))
      (λ out. done.fact.outside k (λ x. out x.turn x.before) ∙ sym same))

-- ---- a cell is read

module _ (c : CardState) (d : BiosData) (h : IsShown c d) (z : IsCard c) (p q : ℕ) (lp : p < h.row.pages) (lq : q < cells_per_page d) where
  abbrev cell : ℕ
  cell = d.size / 2 * p + q

  abbrev all : ℕ → Cell
  all = cell_in c.host.memory.plane0 c.host.memory.plane1

  within : cell < 16384
  within = let w = lies c d h in let b = w.fits in let e = w.within p lp in omega arith

  there : cell_address d p q ≡ base_of h.display + 2 * cell
  there = address_is d h.display h.row.pages p q (lies c d h)

  cell_is : cell_on (screen_shown c d h) cell ≡ all cell
  cell_is = cells_at c.host.memory.plane0 c.host.memory.plane1 text_memory_cells cell within

  begins : IsCells h.display (without_text c) c all
  begins = has_cells h.display c h.setting z.host

  -- if the cells are as they were, the same screen is shown
  stays : (y : CardState) → IsCells h.display (without_text c) y all → shown y d ≡ Some (screen_shown c d h)
  stays y t = same_shown h.display (without_text c) c y d h all t.is.others t (λ _ _. refl)

  -- a read of the cell's attribute, which is a byte
  pub record IsAttribute : Type 0 where
    pub answer : (run card_meaning (get (cell_address d p q + 1)) c).1 ≡ (cell_on (screen_shown c d h) cell).1
    pub shows : shown (run card_meaning (get (cell_address d p q + 1)) c).0 d ≡ Some (screen_shown c d h)
    pub small : (cell_on (screen_shown c d h) cell).1 < 256

  pub attribute_read : IsAttribute
  attribute_read =
      let read = attribute_get h.display (without_text c) c all (cell_address d p q) cell there within begins in
      let same = ap (λ (x : Cell). x.1) cell_is in
      record {
        answer = read.answer ∙ sym same;
        shows = stays (run card_meaning (get (cell_address d p q + 1)) c).0 read.cells;
        small = let l = attribute_small h.display (without_text c) c all cell within begins in omega arith;
      }

  -- a read of both bytes of the cell as a word
  word_read : IsRead h.display (without_text c) all ((all cell).0 + 256 * (all cell).1) (run card_meaning (read_cell_plan (cell_address d p q)) c)
  unfolding read_cell_plan
  word_read =
      let at = cell_address d p q in
      let first = character_get h.display (without_text c) c all at cell there within begins in
      let y = (run card_meaning (get at) c).0 in
      let second = attribute_get h.display (without_text c) y all at cell there within first.cells in
      record {
        cells = second.cells;
        answer = ap (λ a. a + 256 * (run card_meaning (get (at + 1)) y).1) first.answer ∙ ap (λ a. (all cell).0 + 256 * a) second.answer;
      }

-- function 08 answers the cell at the cursor, and the screen stays the same
pub record IsCellRead (fonts : FontSet) (r : Regs) (c : CardState) (d : BiosData) (p : ℕ) (s : Screen) : Type 0 where
  pub answer : (run card_meaning (read_cell_service fonts p d r) c).1 ≡ cell_answer s.contents fonts s p r
  pub shows : shown (run card_meaning (read_cell_service fonts p d r) c).0 d ≡ Some s

pub cell_read : (fonts : FontSet) (r : Regs) (c : CardState) (d : BiosData) (h : IsShown c d) (p : ℕ) → IsCard c → p < h.row.pages →
    cursor_cell_number d p < cells_per_page d → IsCellRead fonts r c d p (screen_shown c d h)
unfolding read_cell_service
cell_read fonts r c d h p z lp lq =
    let q = cursor_cell_number d p in
    let answered : ℕ → Regs = λ ax. record r { ax = ax } in
    let plan : Plan Regs = read_cell_plan (cell_address d p q) >>= λ ax. Done (answered ax) in
    let dots : Plan Regs = read_character_plan (cell_band d p q) (cell_row d q) fonts >>= λ character. Done (record r { ax = with_low r.ax character }) in
    let runs = ap (λ b. let x : Plan Regs = (if b then plan else dots) in run card_meaning x c) h.tests.is_text
    ∙ run_bind card_meaning (read_cell_plan (cell_address d p q)) (λ ax. Done (answered ax)) c in
    let read = word_read c d h z p q lp lq in
    record {
      answer = ap (λ x. x.1) runs ∙ ap answered (read.answer ∙ sym (ap (λ (y : Cell). y.0 + 256 * y.1) (cell_is c d h z p q lp lq)));
      shows = ap (λ x. shown x.0 d) runs ∙ stays c d h z p q lp lq (run card_meaning (read_cell_plan (cell_address d p q)) c).0 read.cells;
    }
