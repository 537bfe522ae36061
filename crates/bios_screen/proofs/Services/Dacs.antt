-- What services do to the DAC's entries.
use Rattle.std.proofs.Common.{◌≡◌, ℕ, zero, suc, ◌+◌, ◌-◌, ◌*◌, ◌%◌, ◌<◌, ◌≤◌, refl, sym, ap, ◌∙◌, subst, arith, List, [], ◌∷◌, length, Bool, true}
use Rattle.std.proofs.Common.{false}
use Rattle.std.specs.Prelude.{◌&&◌, nat_lt, nat_le, if◌then◌else◌, slice_index}
use Rattle.vga_dac.specs.declared.component.Component.TheVariants.{Red}
use Rattle.bios_screen.proofs.Prelude.{DacState, card_meaning, CardState, Regs, Plan, run, each, ◌>>◌, list_by_function}
use Rattle.vga_dac.specs.Dac.{IsDac}
use Rattle.vga_card.specs.Port.{port_of}
use Rattle.vga_card.specs.Cycles.{out_reached, inp_reached}
use Rattle.bios_services.specs.Registers.{with_high}
use Rattle.bios_services.specs.Plan.{out}
use Rattle.bios_services.specs.ModeSet.{write_dac_entry_plan}
use Rattle.bios_services.specs.Dac.{set_entry_plan, components_plan, set_entries_plan}
use Rattle.bios_services.specs.Colours.{read_entry_plan}
use Rattle.bios_screen.specs.Colours.{six_bits, component_with_entries}
use Rattle.bios_screen.proofs.Base.Flat.{Edited, Turn}
use Rattle.bios_screen.proofs.Base.Plans.{then_runs}
use Rattle.std.proofs.lemmas.Grind.{same_number_lists}
use Rattle.bios_screen.proofs.Base.Lists.{length_listing, listed_at}
use Rattle.bios_screen.proofs.Base.Tests.{of_run}
use Rattle.bios_screen.proofs.Modes.Entries.{Colour, colour_of, kept_colour, entry_at, without_entries, HasEntries, before_entry, entries_written}

-- the adapter with another DAC
abbrev pub with_dac : CardState → DacState → CardState
with_dac c d = record c { dac = d }

-- the three bytes of colour r in a block
abbrev triple : List ℕ → ℕ → List ℕ
triple block r = slice_index block (3 * r + 0) ∷ slice_index block (3 * r + 1) ∷ slice_index block (3 * r + 2) ∷ []

-- ---- three bytes make a colour

abbrev byte : List ℕ → ℕ → Plan (Unit {0})
byte block i = out 0x3C9 (slice_index block i)

colours_are : (block : List ℕ) (n j : ℕ) (c : CardState) → run card_meaning (each (byte block) (3 * n) (3 * j)) c
    ≡ run card_meaning (each (λ r. write_dac_entry_plan (triple block r)) n j) c
unfolding write_dac_entry_plan
colours_are block zero j c = refl
colours_are block (suc n) j c =
    let count : 3 * suc n ≡ suc (suc (suc (3 * n))) = omega arith in
    let first : 3 * j ≡ 3 * j + 0 = omega arith in
    let third : 3 * j + 1 + 1 ≡ 3 * j + 2 = omega arith in
    let after : 3 * j + 1 + 1 + 1 ≡ 3 * (j + 1) = omega arith in
    let c3 = (run card_meaning (write_dac_entry_plan (triple block j)) c).0 in
    ap (λ m. run card_meaning (each (byte block) m (3 * j)) c) count
    ∙ ap (λ k. run card_meaning (out 0x3C9 (slice_index block k) >> (out 0x3C9 (slice_index block (3 * j + 1))
    >> (out 0x3C9 (slice_index block (3 * j + 1 + 1)) >> each (byte block) (3 * n) (3 * j + 1 + 1 + 1)))) c) first
    ∙ ap (λ k. run card_meaning (out 0x3C9 (slice_index block (3 * j + 0)) >> (out 0x3C9 (slice_index block (3 * j + 1))
    >> (out 0x3C9 (slice_index block k) >> each (byte block) (3 * n) (3 * j + 1 + 1 + 1)))) c) third
    ∙ ap (λ k. run card_meaning (each (byte block) (3 * n) k) c3) after
    ∙ colours_are block n (j + 1) c3

-- ---- entries are set

-- one component of all entries, after some entries were set from a block
component_is : (old new block : List ℕ) (first count i : ℕ) → length old ≡ 256 → length new ≡ 256 →
    ((k : ℕ) → k < 256 → slice_index new k ≡ (if nat_le first k && nat_lt k (first + count) then six_bits (slice_index block (3 * (k - first) + i))
    else slice_index old k)) → new ≡ component_with_entries old first count block i
component_is old new block first count i eo en h =
    let f : ℕ → ℕ = λ k. if nat_le first k && nat_lt k (first + count) then six_bits (slice_index block (3 * (k - first) + i)) else slice_index old k in
    same_number_lists new (list_by_function f 0 (length old)) (en ∙ sym (length_listing f 0 (length old) ∙ eo)) (λ k l. h k (omega arith)
    ∙ sym (listed_at f (length old) k 0 (omega arith)))

-- the DAC's three lists are those of the screen after the step
pub record AreEntries (old new : DacState) (first count : ℕ) (block : List ℕ) : Type 0 where
  pub reds : new.reds ≡ component_with_entries old.reds first count block 0
  pub greens : new.greens ≡ component_with_entries old.greens first count block 1
  pub blues : new.blues ≡ component_with_entries old.blues first count block 2

pub record IsLoaded (c y : CardState) (first count : ℕ) (block : List ℕ) : Type 0 where
  pub entries : AreEntries c.dac y.dac first count block
  pub others : without_entries y ≡ without_entries c

-- entry k, after some entries were set from a block
entry_is : (first count : ℕ) (block : List ℕ) (f g : ℕ → Colour) → Edited Colour (Turn (λ _. Unit {0}) 0 count) (λ h. first + h.turn) (λ h x.
    kept_colour (colour_of (triple block h.turn))) f g → (k : ℕ) → g k ≡ (if nat_le first k && nat_lt k (first + count)
    then kept_colour (colour_of (triple block (k - first))) else f k)
entry_is first count block f g edited k =
    of_run first count k (g k) (kept_colour (colour_of (triple block (k - first)))) (f k)
    (λ lo hi.
    let there : first + (k - first) ≡ k = omega arith in
    ap g (sym there) ∙ edited.inside (record { turn = k - first; from = omega arith; before = omega arith; place = tt }))
    (λ out. edited.outside k (λ h. out h.turn h.before))

-- a component of the colour that a test chooses
part_of_choice : (b : Bool) (x y : Colour) (part : Colour → ℕ) → part (if b then x else y) ≡ (if b then part x else part y)
part_of_choice true x y part = refl
part_of_choice false x y part = refl

-- colours are written from entry `first` on, after the index was written
loaded_from : (c s : CardState) (first count : ℕ) (block : List ℕ) → IsDac c.dac → first + count ≤ 256 → first < 256 →
    s ≡ with_dac c (record c.dac { index = first; component = Red }) → IsLoaded c (run card_meaning (each (λ r. write_dac_entry_plan (triple block r)) count 0) s).0
    first count block
loaded_from c s first count block z l few e =
    let f : ℕ → Colour = entry_at c.dac in
    let there : HasEntries (without_entries c) first s f = subst (λ x. HasEntries (without_entries c) first x f) (sym e) (before_entry c first z few) in
    let done = entries_written (without_entries c) (triple block) first count s f l there in
    let y = (run card_meaning (each (λ r. write_dac_entry_plan (triple block r)) count 0) s).0 in
    let at : (k : ℕ) → k < 256 → entry_at y.dac k ≡ (if nat_le first k && nat_lt k (first + count) then kept_colour (colour_of (triple block (k - first)))
    else f k) = λ k m. done.shown.entry k m ∙ entry_is first count block f done.cells done.fact k in
    let test : ℕ → Bool = λ k. nat_le first k && nat_lt k (first + count) in
    let new : ℕ → Colour = λ k. kept_colour (colour_of (triple block (k - first))) in
    record {
      entries = record {
        reds = component_is c.dac.reds y.dac.reds block first count 0 z.reds done.shown.reds (λ k m. ap (λ (x : Colour). x.red) (at k m)
            ∙ part_of_choice (test k) (new k) (f k) (λ (x : Colour). x.red));
        greens = component_is c.dac.greens y.dac.greens block first count 1 z.greens done.shown.greens (λ k m. ap (λ (x : Colour). x.green) (at k m)
            ∙ part_of_choice (test k) (new k) (f k) (λ (x : Colour). x.green));
        blues = component_is c.dac.blues y.dac.blues block first count 2 z.blues done.shown.blues (λ k m. ap (λ (x : Colour). x.blue) (at k m)
            ∙ part_of_choice (test k) (new k) (f k) (λ (x : Colour). x.blue));
      };
      others = done.shown.others;
    }

index_by : (c : CardState) (v : ℕ) → (run card_meaning (out 0x3C8 v) c).0 ≡ with_dac c (record c.dac { index = v; component = Red })
unfolding port_of out_reached
index_by c v = refl

pub entries_loaded : (c : CardState) (first count : ℕ) (block : List ℕ) → IsDac c.dac → first + count ≤ 256 → first < 256 → length block ≡ 3 * count →
    IsLoaded c (run card_meaning (set_entries_plan first block) c).0 first count block
unfolding set_entries_plan components_plan
entries_loaded c first count block z l few e =
    let s = (run card_meaning (out 0x3C8 first) c).0 in
    let done = loaded_from c s first count block z l few (index_by c first) in
    let same_plan : (run card_meaning (each (byte block) (length block) 0) s).0 ≡ (run card_meaning (each (λ r. write_dac_entry_plan (triple block r)) count 0) s).0 =
    ap (λ n. (run card_meaning (each (byte block) n 0) s).0) e ∙ ap (λ r. r.0) (colours_are block count 0 s) in
    subst (λ y. IsLoaded c y first count block) (sym (then_runs (out 0x3C8 first) (each (byte block) (length block) 0) c ∙ same_plan)) done

one_by : (c : CardState) (entry r g b : ℕ) → (run card_meaning (set_entry_plan entry r g b) c).0
    ≡ (run card_meaning (set_entries_plan entry (r ∷ g ∷ b ∷ [])) c).0
unfolding set_entry_plan set_entries_plan components_plan
one_by c entry r g b = refl

pub entry_loaded : (c : CardState) (entry r g b : ℕ) → IsDac c.dac → entry < 256 →
    IsLoaded c (run card_meaning (set_entry_plan entry r g b) c).0 entry 1 (r ∷ g ∷ b ∷ [])
entry_loaded c entry r g b z l = subst (λ y. IsLoaded c y entry 1 (r ∷ g ∷ b ∷ [])) (sym (one_by c entry r g b))
    (entries_loaded c entry 1 (r ∷ g ∷ b ∷ []) z (omega arith) l refl)

-- ---- reading an entry and the mask

pub entry_read : (c : CardState) (entry : ℕ) (r : Regs) → run card_meaning (read_entry_plan entry r) c
    ≡ (
      with_dac c (record c.dac { index = (entry + 1) % 256; component = Red }),
      record r {
        cx =
            256 * slice_index c.dac.greens entry + slice_index c.dac.blues entry;
        dx = with_high r.dx (slice_index c.dac.reds entry);
      },
    )
unfolding read_entry_plan port_of out_reached inp_reached
entry_read c entry r = refl
