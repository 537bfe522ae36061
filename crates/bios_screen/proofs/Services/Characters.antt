-- Functions 08, 09 and 0A in any mode: reading the character at the cursor, and writing characters
-- from there on.
use Rattle.std.proofs.Common.{◌≡◌, ℕ, ◌+◌, ◌<◌, ◌≤◌, ap, ◌∙◌, List, Some, None}
use Rattle.bios_screen.proofs.Prelude.{IsCard, card_meaning, CardState, BiosData, FontSet, bytes_320_by_200, Regs, Colouring, page_count, cells_per_page, Plan, run}
use Rattle.bios_screen.proofs.Prelude.{Done, ◌>>=◌, ◌>>◌, page_or_0_if_only_one, page_or_0_in_mode_of_one_page, ServiceOutcome, Screen, shown, page_or_0_on_screen_of_one_page, ServiceActsAsOnScreen}
use Rattle.bios_services.specs.declared.cell_run.CellRun.{CellRun}
use Rattle.bios_services.specs.declared.call.Service.TheVariants.{ReadCell, WriteCells}
use Rattle.bios_services.specs.CellRuns.{cell_run_plan}
use Rattle.bios_services.specs.Cursor.{cursor_cell_number}
use Rattle.bios_services.specs.Drawing.{characters_plan}
use Rattle.bios_services.specs.Reasons.{◌or◌, no_page, outside_cells, past_cells}
use Rattle.bios_services.specs.Refusals.{refusal_in_mode}
use Rattle.bios_services.specs.Service.{plan_of_service, read_cell_service}
use Rattle.bios_screen.specs.Step.{refusal_on, next, answer_on, put_characters}
use Rattle.bios_screen.proofs.Base.Plans.{run_bind}
use Rattle.bios_services.proofs.CardLemmas.{plan_beam}
use Rattle.bios_screen.proofs.Base.Reasons.{cell_allowed, cells_allowed}
use Rattle.bios_screen.proofs.Shows.Screens.{pages_are, page_in, page_of, named_page}
use Rattle.bios_screen.proofs.Shows.Any.{IsAny, any_screen, still_any}
use Rattle.bios_screen.proofs.Shows.Kinds.{by_modes}
use Rattle.bios_screen.proofs.Text.Writes as text
use Rattle.bios_screen.proofs.Text.Writes.{IsCellRead}
use Rattle.bios_screen.proofs.Planar.Writes as planar
use Rattle.bios_screen.proofs.Planar.Cells as planar_cells
use Rattle.bios_screen.proofs.Packed.Writes as packed
use Rattle.bios_screen.proofs.Packed.Cells as packed_cells

-- after n characters are written, the screen with these characters is shown
pub characters_shown : (fonts : FontSet) (c : CardState) (d : BiosData) (s : Screen) (p q n v : ℕ) (colouring : Colouring) → shown c d ≡ Some s →
    IsCard c → p < page_count d → q + n ≤ cells_per_page d → v < 256 → colouring.colour < 256
    → shown (run card_meaning (characters_plan fonts d p q v colouring n) c).0 d ≡ Some (put_characters fonts s p q n v colouring)
characters_shown fonts c d s p q n v colouring e z lp lq lv la =
    by_modes c d (λ w. shown (run card_meaning (characters_plan fonts d p q v colouring n) c).0 d ≡ Some (put_characters fonts w p q n v colouring))
    (λ h. text.characters_shown fonts c d h z p q n v colouring (page_in h.row d p h.mode lp) lq lv la)
    (λ row t. planar.characters_shown row c d t z fonts p q n v colouring (page_in row d p (t.there d.height) lp) lq)
    (λ t. packed.characters_shown c d t z fonts p q n v colouring (page_in bytes_320_by_200 d p (t.there d.height) lp) lq la)
    s e

-- the character at a cursor is answered, and the screen stays the same
cell_read : (fonts : FontSet) (r : Regs) (c : CardState) (d : BiosData) (s : Screen) (p : ℕ) → shown c d ≡ Some s → IsCard c → p < page_count d →
    cursor_cell_number d p < cells_per_page d → IsCellRead fonts r c d p s
cell_read fonts r c d s p e z lp lq = by_modes c d (IsCellRead fonts r c d p)
    (λ h. text.cell_read fonts r c d h p z (page_in h.row d p h.mode lp) lq)
    (λ row t. planar_cells.cell_read row c d t z fonts r p (page_in row d p (t.there d.height) lp) lq)
    (λ t. packed_cells.cell_read c d t z fonts r p (page_in bytes_320_by_200 d p (t.there d.height) lp) lq)
    s e

module _ (fonts : FontSet) (r : Regs) (block : List ℕ) (c : CardState) (d : BiosData) (h : IsAny c d) (z : IsCard c) where
  abbrev s : Screen
  s = any_screen c d h c

  pub write_cells : (cells : CellRun) → cells.character < 256 → cells.colouring.colour < 256 → ServiceActsAsOnScreen (WriteCells cells) fonts r block c d s
  unfolding plan_of_service refusal_in_mode refusal_on next answer_on
  write_cells cells lv la =
      let p = page_or_0_on_screen_of_one_page s cells.page in
      let plan = cell_run_plan fonts d (record cells { page = page_or_0_in_mode_of_one_page d cells.page }) in
      let done : Plan ServiceOutcome = Done (r, d) in
      let runs = run_bind card_meaning plan (λ _. done) c in
      record {
        refusal = ap (λ n. let at : ℕ = cursor_cell_number d (page_or_0_if_only_one n cells.page) in no_page n (page_or_0_if_only_one n cells.page) or outside_cells (cells_per_page d) at
            or past_cells (cells_per_page d) at cells.count)
            (pages_are h.row d h.mode);
        answer = λ _. ap (λ q. q.1.0) runs;
        shows = λ allowed.
            let l = cells_allowed h.row.pages p (cursor_cell_number d p) cells.count (cells_per_page d) allowed in
            ap (λ q. shown q.0 q.1.1) runs
            ∙ ap (λ i. shown (run card_meaning (cell_run_plan fonts d (record cells { page = i })) c).0 d) (named_page h.row d h.mode cells.page)
            ∙ characters_shown fonts c d s p (cursor_cell_number d p) cells.count cells.character cells.colouring (still_any c d h) z
            (page_of h.row d p h.mode l.0) l.1 lv la;
        beam = plan_beam (plan >> done) c;
      }

  pub read_cell : (page : ℕ) → ServiceActsAsOnScreen (ReadCell page) fonts r block c d s
  unfolding plan_of_service refusal_in_mode refusal_on next answer_on
  read_cell page =
      let p = page_or_0_on_screen_of_one_page s page in
      let plan = read_cell_service fonts (page_or_0_in_mode_of_one_page d page) d r in
      let done : Regs → Plan ServiceOutcome = λ after. Done (after, d) in
      let runs = run_bind card_meaning plan done c
      ∙ ap (λ i. let x = run card_meaning (read_cell_service fonts i d r) c in let y : CardState × ServiceOutcome = (x.0, (x.1, d)) in y)
      (named_page h.row d h.mode page) in
      let read : (no_page h.row.pages p or outside_cells (cells_per_page d) (cursor_cell_number d p)) ≡ None → IsCellRead fonts r c d p s = λ allowed.
      let l = cell_allowed h.row.pages p (cursor_cell_number d p) (cells_per_page d) allowed in
      cell_read fonts r c d s p (still_any c d h) z (page_of h.row d p h.mode l.0) l.1 in
      record {
        refusal = ap (λ n. no_page n (page_or_0_if_only_one n page) or outside_cells (cells_per_page d) (cursor_cell_number d (page_or_0_if_only_one n page))) (pages_are h.row d h.mode);
        answer = λ allowed. ap (λ q. q.1.0) runs ∙ (read allowed).answer;
        shows = λ allowed. ap (λ q. shown q.0 q.1.1) runs ∙ (read allowed).shows;
        beam = plan_beam (plan >>= done) c;
      }
