-- Calls for tables: they reply the palette or some DAC entries, and the screen stays the same.
use Rattle.std.proofs.Common.{◌≡◌, ℕ, zero, suc, ◌+◌, ◌*◌, ◌%◌, ◌<◌, ◌≤◌, refl, sym, ap, ◌∙◌, subst, arith, List, [], ◌∷◌, ◌++◌, Option, Some, None, false, Err}
use Rattle.std.proofs.lemmas.Bool.Decides.{nat_tests}
use Rattle.std.specs.Prelude.{if◌then◌else◌, slice_index, take}
use Rattle.bios_screen.proofs.Prelude.{Refusal, IsCard, card_meaning, CardState, crtc_port, BiosData, FontSet, Regs, Plan, run, Done, ◌>>=◌, list_by_function, Screen}
use Rattle.bios_screen.proofs.Prelude.{shown}
use Rattle.vga_bits.specs.declared.refusal.Refusal.TheVariants.{NoMode}
use Rattle.vga_dac.specs.declared.component.Component.TheVariants.{Red}
use Rattle.vga_card.specs.Port.{port_of as reached_by}
use Rattle.vga_card.specs.Cycles.{out_reached, inp_reached}
use Rattle.bios_services.specs.declared.reply.Table.{Table}
use Rattle.bios_services.specs.declared.reply.Table.TheVariants.{Palette as PaletteTable, Dac as DacTable}
use Rattle.bios_services.specs.declared.tables.TableService.{TableService}
use Rattle.bios_services.specs.declared.tables.TableService.TheVariants.{ReadPalette, ReadEntries}
use Rattle.bios_services.specs.declared.call.Call.{Call}
use Rattle.bios_services.specs.declared.call.Call.TheVariants.{ReadTable}
use Rattle.bios_services.specs.Plan.{out, inp, gather}
use Rattle.bios_services.specs.Palette.{read_attribute_register_in_index_state_plan}
use Rattle.bios_services.specs.Tables.{table_refusal, attribute_register_of_palette_byte, read_palette_registers_in_index_state_plan, read_palette_and_overscan_plan, read_components_plan, read_entries_plan, table_plan}
use Rattle.bios_services.specs.Calls.{call_of}
use Rattle.bios_services.specs.Service.{CallOutcome, answer_with, refusal_plan, table_unless_refused_plan, table_in_mode_plan, call_plan}
use Rattle.bios_screen.specs.Shown.{palette_of_card}
use Rattle.bios_screen.specs.Colours.{entry_bytes_from, table_answer}
use Rattle.bios_screen.specs.AfterCall.{after_call}
use Rattle.bios_screen.specs.Called.{TableCallLeavesScreen, CallRunsOutOfMemory, ScreenStaysShown, table_reply_unless_refused as replied_unless}
use Rattle.bios_screen.proofs.Base.Plans.{run_bind}
use Rattle.bios_screen.proofs.Base.Ports.{expected_runs}
use Rattle.bios_screen.proofs.Base.Lists.{spelled}
use Rattle.bios_services.proofs.CardLemmas.{plan_beam}
use Rattle.bios_screen.proofs.Shows.Screens.{mode_of_shown}
use Rattle.bios_screen.proofs.Shows.Any.{IsAny, any_screen, any_is}
use Rattle.bios_screen.proofs.Services.Attributes.{with_attr, value_of_register}
use Rattle.bios_screen.proofs.Services.Dacs.{with_dac}
use Rattle.bios_screen.proofs.Services.Palette.{entries_allowed, index_moved, dac_shown}

-- ---- the palette is read

-- the sixteen palette values and then the overscan
abbrev values_of : List ℕ → List ℕ
values_of l = take 16 l ++ slice_index l 0x11 ∷ []

abbrev with_byte : ℕ → List ℕ → Plan (List ℕ)
with_byte x l = Done (x ∷ l)

-- the index after n values were read, from value i on; j is the index before
abbrev index_after : ℕ → ℕ → ℕ → ℕ
index_after zero i j = j
index_after (suc n) i j = index_after n (i + 1) (0x20 + attribute_register_of_palette_byte i)

register_small : (i : ℕ) → i < 17 → attribute_register_of_palette_byte i < 18
register_small i l = grind (arith, nat_tests)

gathered : (c : CardState) (n i j : ℕ) → i + n ≤ 17 → (let l = c.attr.registers in
    run card_meaning (gather (λ k. read_attribute_register_in_index_state_plan (crtc_port c.misc) (attribute_register_of_palette_byte k)) n i) (with_attr c l j false)
    ≡ (with_attr c l (index_after n i j) false, list_by_function (λ k. slice_index l (attribute_register_of_palette_byte k)) i n))
gathered c zero i j h = refl
gathered c (suc n) i j h =
    let l = c.attr.registers in
    let f : ℕ → Plan ℕ = λ k. read_attribute_register_in_index_state_plan (crtc_port c.misc) (attribute_register_of_palette_byte k) in
    let rest : Plan (List ℕ) = gather f n (i + 1) in
    let x = slice_index l (attribute_register_of_palette_byte i) in
    let c1 = with_attr c l (0x20 + attribute_register_of_palette_byte i) false in
    run_bind card_meaning (f i) (λ v. rest >>= with_byte v) (with_attr c l j false)
    ∙ ap (λ (r : CardState × ℕ). run card_meaning (rest >>= with_byte r.1) r.0) (value_of_register c l j (attribute_register_of_palette_byte i) (register_small i (omega arith)))
    ∙ run_bind card_meaning rest (with_byte x) c1
    ∙ ap (λ (r : CardState × List ℕ). let p : CardState × List ℕ = (r.0, x ∷ r.1) in p) (gathered c n (i + 1) (0x20 + attribute_register_of_palette_byte i) (omega arith))

palette_read : (c : CardState) → IsCard c → run card_meaning (read_palette_and_overscan_plan (crtc_port c.misc)) c
    ≡ (with_attr c c.attr.registers 0x31 false, values_of c.attr.registers)
unfolding read_palette_and_overscan_plan read_palette_registers_in_index_state_plan
palette_read c z =
    expected_runs (read_palette_registers_in_index_state_plan (crtc_port c.misc)) c
    ∙ gathered c 17 0 c.attr.index (omega arith)
    ∙ ap (λ k. let p : CardState × List ℕ = (with_attr c c.attr.registers 0x31 false, k) in p) (sym (ap values_of (spelled c.attr.registers 21 z.attr.size)))

-- ---- entries are read

-- the adapter whose DAC is at red of entry k
abbrev at_entry : CardState → ℕ → CardState
at_entry c k = with_dac c (record c.dac { index = k; component = Red })

abbrev next_byte : ℕ → Plan ℕ
next_byte i = inp 0x3C9

three_more : (p : Plan (List ℕ)) (x y z : ℕ) (c : CardState) → run card_meaning (((p >>= with_byte z) >>= with_byte y) >>= with_byte x) c
    ≡ (let r = run card_meaning p c in let q : CardState × List ℕ = (r.0, x ∷ y ∷ z ∷ r.1) in q)
three_more p x y z c =
    run_bind card_meaning ((p >>= with_byte z) >>= with_byte y) (with_byte x) c
    ∙ ap (λ (r : CardState × List ℕ). run card_meaning (with_byte x r.1) r.0) (run_bind card_meaning (p >>= with_byte z) (with_byte y) c)
    ∙ ap (λ (r : CardState × List ℕ). let q : CardState × List ℕ = (r.0, x ∷ y ∷ r.1) in q) (run_bind card_meaning p (with_byte z) c)

entry_by : (c : CardState) (n i k : ℕ) → run card_meaning (gather next_byte (suc (suc (suc n))) i) (at_entry c k)
    ≡ run card_meaning (((gather next_byte n (i + 1 + 1 + 1) >>= with_byte (slice_index c.dac.blues k)) >>= with_byte (slice_index c.dac.greens k))
    >>= with_byte (slice_index c.dac.reds k)) (at_entry c ((k + 1) % 256))
unfolding reached_by inp_reached
entry_by c n i k = refl

-- reading n entries from entry k on
entries_by : (c : CardState) (n i k : ℕ) → k + n ≤ 256 → run card_meaning (gather next_byte (3 * n) i) (at_entry c (k % 256))
    ≡ (at_entry c ((k + n) % 256), entry_bytes_from (palette_of_card c) k n)
entries_by c zero i k l = let z : k ≡ k + 0 = omega arith in ap (λ j. let p : CardState × List ℕ = (at_entry c (j % 256), []) in p) z
entries_by c (suc n) i k l =
    let count : 3 * suc n ≡ suc (suc (suc (3 * n))) = omega arith in
    let small : k % 256 ≡ k = omega arith in
    let all : k + 1 + n ≡ k + suc n = omega arith in
    let red = slice_index c.dac.reds k in
    let green = slice_index c.dac.greens k in
    let blue = slice_index c.dac.blues k in
    ap (λ m. run card_meaning (gather next_byte m i) (at_entry c (k % 256))) count
    ∙ ap (λ j. run card_meaning (gather next_byte (suc (suc (suc (3 * n)))) i) (at_entry c j)) small
    ∙ entry_by c (3 * n) i k
    ∙ three_more (gather next_byte (3 * n) (i + 1 + 1 + 1)) red green blue (at_entry c ((k + 1) % 256))
    ∙ ap (λ (x : CardState × List ℕ). let p : CardState × List ℕ = (x.0, red ∷ green ∷ blue ∷ x.1) in p) (entries_by c n (i + 1 + 1 + 1) (k + 1) (omega arith))
    ∙ ap (λ j. let p : CardState × List ℕ = (at_entry c (j % 256), entry_bytes_from (palette_of_card c) k (suc n)) in p) all

index_by : (c : CardState) (v : ℕ) → (run card_meaning (out 0x3C7 v) c).0 ≡ at_entry c v
unfolding reached_by out_reached
index_by c v = refl

entries_read : (c : CardState) (first count : ℕ) → first < 256 → first + count ≤ 256 →
    run card_meaning (read_entries_plan first count) c ≡ (at_entry c ((first + count) % 256), entry_bytes_from (palette_of_card c) first count)
unfolding read_entries_plan read_components_plan
entries_read c first count begin few =
    let small : first ≡ first % 256 = omega arith in
    run_bind card_meaning (out 0x3C7 first) (λ _. gather next_byte (3 * count) 0) c
    ∙ ap (λ s. run card_meaning (gather next_byte (3 * count) 0) s) (index_by c first)
    ∙ ap (λ j. run card_meaning (gather next_byte (3 * count) 0) (at_entry c j)) small
    ∙ entries_by c count 0 first few

-- ---- a table that is not refused

record IsTable (service : TableService) (c : CardState) (d : BiosData) (s : Screen) : Type 0 where
  answer : (run card_meaning (table_plan service d.crtc_address) c).1 ≡ table_answer s service
  shows : shown (run card_meaning (table_plan service d.crtc_address) c).0 d ≡ Some s

is_table : (service : TableService) (c : CardState) (d : BiosData) (h : IsAny c d) → IsCard c → table_refusal service ≡ None →
    IsTable service c d (any_screen c d h c)
unfolding table_plan
is_table ReadPalette c d h z e =
    let done : List ℕ → Plan Table = λ values. Done (PaletteTable values) in
    let runs =
    run_bind card_meaning (read_palette_and_overscan_plan d.crtc_address) done c
    ∙ ap (λ p. let x = run card_meaning (read_palette_and_overscan_plan p) c in run card_meaning (done x.1) x.0) h.port
    ∙ ap (λ (x : CardState × List ℕ). run card_meaning (done x.1) x.0) (palette_read c z) in
    record { answer = ap (λ x. x.1) runs; shows = ap (λ x. shown x.0 d) runs ∙ index_moved c d h 0x11 (omega arith) }
is_table (ReadEntries first count) c d h z e =
    let a = entries_allowed first count e in
    let done : List ℕ → Plan Table = λ values. Done (DacTable values) in
    let runs =
    run_bind card_meaning (read_entries_plan first count) done c
    ∙ ap (λ (x : CardState × List ℕ). run card_meaning (done x.1) x.0) (entries_read c first count a.begin a.all) in
    record {
      answer = ap (λ x. x.1) runs;
      shows = ap (λ x. shown x.0 d) runs ∙ dac_shown c d h
          (record c.dac { index = (first + count) % 256; component = Red });
    }

-- ---- the call

call_read : (service : TableService) (fonts : FontSet) (r : Regs) (block : List ℕ) (c : CardState) (d : BiosData) (h : IsAny c d) → IsCard c →
    shown c d ≡ Some (any_screen c d h c) → call_of r ≡ Some (ReadTable service) → TableCallLeavesScreen service fonts r block c d (any_screen c d h c)
unfolding table_in_mode_plan table_unless_refused_plan
call_read service fonts r block c d h z old e = by_refusal (table_refusal service) refl
  where
    done : Table → Plan CallOutcome
    done table = Done (answer_with table r d)

    runs : after_call fonts r block c d ≡ run card_meaning (table_unless_refused_plan (table_refusal service) service d r) c
    runs =
        ap (λ (q : Option Call). run card_meaning (call_plan q fonts d r block) c) e
        ∙ ap (λ b. run card_meaning (if b then refusal_plan NoMode d else table_unless_refused_plan (table_refusal service) service d r) c)
        (mode_of_shown c d (any_screen c d h c) old).set

    beam_is : (after_call fonts r block c d).0.crtc.beam ≡ c.crtc.beam
    beam_is = ap (λ y. y.0.crtc.beam) runs ∙ plan_beam (table_unless_refused_plan (table_refusal service) service d r) c

    by_refusal : (x : Option Refusal) → table_refusal service ≡ x → TableCallLeavesScreen service fonts r block c d (any_screen c d h c)
    by_refusal (Some why) q =
        let all : after_call fonts r block c d ≡ (c, (Err why, d)) = runs ∙ ap (λ x. run card_meaning (table_unless_refused_plan x service d r) c) q in
        record {
          reply = ap (λ x. x.1.0) all ∙ sym (ap (λ x. replied_unless x (table_answer (any_screen c d h c) service) r) q);
          shows = ap (λ x. shown x.0 x.1.1) all ∙ old;
          beam = beam_is;
        }
    by_refusal None q =
        let t = is_table service c d h z q in
        let all = runs ∙ ap (λ x. run card_meaning (table_unless_refused_plan x service d r) c) q ∙ run_bind card_meaning (table_plan service d.crtc_address) done c in
        record {
          reply = ap (λ x. x.1.0) all ∙ ap (λ k. replied_unless None k r) t.answer
              ∙ sym (ap (λ x. replied_unless x (table_answer (any_screen c d h c) service) r) q);
          shows = ap (λ x. shown x.0 x.1.1) all ∙ t.shows;
          beam = beam_is;
        }

pub tables_read : (service : TableService) (fonts : FontSet) (r : Regs) (block : List ℕ) (c : CardState) (d : BiosData) (s : Screen) → IsCard c →
    shown c d ≡ Some s → call_of r ≡ Some (ReadTable service) → TableCallLeavesScreen service fonts r block c d s
tables_read service fonts r block c d s z old e =
    let x = any_is c d s old in
    subst (TableCallLeavesScreen service fonts r block c d) x.screen (call_read service fonts r block c d x.is z (old ∙ ap Some (sym x.screen)) e)

-- after an allocation failure nothing has changed
pub memory_wanted : (fonts : FontSet) (r : Regs) (block : List ℕ) (c y : CardState) (d after : BiosData) (s : Screen) → shown c d ≡ Some s →
    CallRunsOutOfMemory fonts r block c d y after → ScreenStaysShown c s y after
memory_wanted fonts r block c y d after s old h = record { shows = ap (λ x. shown x after) h.0 ∙ ap (shown c) h.1 ∙ old; beam = ap (λ x. x.crtc.beam) h.0 }
