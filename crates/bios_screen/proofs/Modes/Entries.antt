-- The DAC's entries in a mode set.
use Rattle.std.proofs.Common.{◌≡◌, ◌≢◌, ℕ, ◌+◌, ◌%◌, ◌<◌, ◌≤◌, ⊎_elim, refl, sym, ap, ◌∙◌, subst, arith, List, [], length, Bool, true}
use Rattle.std.specs.Prelude.{◌==◌, ◌&&◌, slice_index, slice_set, bit_and}
use Rattle.std.proofs.lemmas.Bool.{cases_eq, agree_below, agree_below_at}
use Rattle.std.proofs.lemmas.List.{get_or-set_same, get_or-set_other, length-set}
use Rattle.vga_dac.specs.declared.component.Component.TheVariants.{Red}
use Rattle.bios_screen.proofs.Prelude.{DacState, card_meaning, CardState, run, each}
use Rattle.vga_dac.specs.Dac.{IsDac}
use Rattle.vga_card.specs.Port.{port_of}
use Rattle.vga_card.specs.Cycles.{out_reached}
use Rattle.bios_modes.specs.declared.palette.Palette.{Palette}
use Rattle.bios_modes.specs.declared.palette.Palette.TheVariants.{Colours16, Colours64, Colours256, Monochrome}
use Rattle.bios_modes.specs.Palette.{palette_entry}
use Rattle.bios_services.specs.ModeSet.{write_dac_entry_plan}
use Rattle.bios_screen.proofs.Base.Flat.{Edited, Turn, Leaves, set_cell, set_same, set_other}
use Rattle.bios_screen.proofs.Base.Edits.{one_edit, edits}
use Rattle.bios_screen.proofs.Base.Tests.{both_true, same}

pub record Colour : Type 0 where
  pub red : ℕ
  pub green : ℕ
  pub blue : ℕ

-- a colour from a list of three bytes, and the bits of it that the DAC keeps
abbrev pub colour_of : List ℕ → Colour
colour_of l = record { red = slice_index l 0; green = slice_index l 1; blue = slice_index l 2 }

abbrev pub kept_colour : Colour → Colour
kept_colour x = record { red = bit_and x.red 0x3F; green = bit_and x.green 0x3F; blue = bit_and x.blue 0x3F }

-- entry k, from the three lists
abbrev pub entry_at : DacState → ℕ → Colour
entry_at d k = record { red = slice_index d.reds k; green = slice_index d.greens k; blue = slice_index d.blues k }

-- all of an adapter except the DAC's entries, index, component and waiting values
abbrev pub without_entries : CardState → CardState
without_entries c = record c { dac = record c.dac { reds = []; greens = []; blues = []; index = 0; component = Red; waiting_red = 0; waiting_green = 0 } }

-- the DAC is at red of entry i, its entries are f, and all else is as in `rest`
pub record HasEntries (rest : CardState) (i : ℕ) (c : CardState) (f : ℕ → Colour) : Type 0 where
  pub index : c.dac.index ≡ i % 256
  pub component : c.dac.component ≡ Red
  pub reds : length c.dac.reds ≡ 256
  pub greens : length c.dac.greens ≡ 256
  pub blues : length c.dac.blues ≡ 256
  pub entry : (k : ℕ) → k < 256 → entry_at c.dac k ≡ f k
  pub others : without_entries c ≡ rest

-- the DAC after entry i, which its index selects, is written with a colour
abbrev stored : DacState → ℕ → Colour → DacState
stored d i x = record d {
  reds = slice_set d.reds i (bit_and x.red 0x3F);
  greens = slice_set d.greens i (bit_and x.green 0x3F);
  blues = slice_set d.blues i (bit_and x.blue 0x3F);
  index = (i + 1) % 256;
  component = Red;
  waiting_red = bit_and x.red 0x3F;
  waiting_green = bit_and x.green 0x3F;
}

-- three writes set one entry
three : (l : List ℕ) (i : ℕ) (c : CardState) → c.dac.component ≡ Red → c.dac.index ≡ i →
    (run card_meaning (write_dac_entry_plan l) c).0 ≡ record c { dac = stored c.dac i (colour_of l) }
unfolding write_dac_entry_plan port_of out_reached
three l i c e w =
    ap (λ x. (run card_meaning (write_dac_entry_plan l) (record c { dac = record c.dac { component = x } })).0) e
    ∙ ap (λ x. let t : CardState = record c { dac = stored c.dac x (colour_of l) } in t) w

one_entry : (rest : CardState) (colour : List ℕ) (i : ℕ) (s : CardState) (c : ℕ → Colour) → i < 256 → HasEntries rest i s c →
    Leaves CardState Colour (HasEntries rest (i + 1)) (run card_meaning (write_dac_entry_plan colour) s).0
    (Edited Colour (Unit {0}) (λ _. i) (λ _ x. kept_colour (colour_of colour)) c)
one_entry rest colour i s c l t =
    let new = kept_colour (colour_of colour) in
    let after : CardState = record s { dac = stored s.dac i (colour_of colour) } in
    let d : ℕ → Colour = set_cell c i new in
    let z : i % 256 ≡ i = omega arith in
    let still : HasEntries rest (i + 1) after d = record {
      index = refl;
      component = refl;
      reds = length-set s.dac.reds i new.red ∙ t.reds;
      greens = length-set s.dac.greens i new.green ∙ t.greens;
      blues = length-set s.dac.blues i new.blue ∙ t.blues;
      entry = λ k h. ⊎_elim
          (λ (e : k ≡ i).
          let r = ap (λ j. slice_index after.dac.reds j) e ∙ get_or-set_same s.dac.reds i new.red 0 (omega (arith, t.reds)) in
          let g = ap (λ j. slice_index after.dac.greens j) e ∙ get_or-set_same s.dac.greens i new.green 0 (omega (arith, t.greens)) in
          let b = ap (λ j. slice_index after.dac.blues j) e ∙ get_or-set_same s.dac.blues i new.blue 0 (omega (arith, t.blues)) in
          rw (r, g, b) refl ∙ sym (set_same c i new k e))
          (λ (n : k ≢ i).
          let r = get_or-set_other s.dac.reds i k new.red 0 n in
          let g = get_or-set_other s.dac.greens i k new.green 0 n in
          let b = get_or-set_other s.dac.blues i k new.blue 0 n in
          rw (r, g, b) refl ∙ t.entry k h ∙ sym (set_other c i new k n))
          (cases_eq k i);
      others = t.others;
    } in
    record { cells = d; shown = subst (λ x. HasEntries rest (i + 1) x d) (sym (three colour i s t.component (t.index ∙ z))) still; fact = one_edit i new c }

-- an adapter whose DAC is at red of entry i
pub before_entry : (c : CardState) (i : ℕ) → IsDac c.dac → i < 256 →
    HasEntries (without_entries c) i (record c { dac = record c.dac { index = i; component = Red } }) (entry_at c.dac)
before_entry c i z l = record {
  index = omega arith;
  component = refl;
  reds = z.reds;
  greens = z.greens;
  blues = z.blues;
  entry = λ k m. refl;
  others = refl;
}

-- n colours are written, from entry i on
pub entries_written : (rest : CardState) (colour : ℕ → List ℕ) (i n : ℕ) (s : CardState) (c : ℕ → Colour) → i + n ≤ 256 → HasEntries rest i s c →
    Leaves CardState Colour (HasEntries rest (i + n)) (run card_meaning (each (λ r. write_dac_entry_plan (colour r)) n 0) s).0
    (Edited Colour (Turn (λ _. Unit {0}) 0 n) (λ h. i + h.turn) (λ h x. kept_colour (colour_of (colour h.turn))) c)
entries_written rest colour i n s c l t =
    let z : i ≡ i + 0 = omega arith in
    edits CardState Colour card_meaning (λ r. write_dac_entry_plan (colour r)) (λ r. HasEntries rest (i + r)) 0 n (λ _. Unit {0}) (λ r h. i + r) (λ r h x.
    kept_colour (colour_of (colour r))) (λ j k a b lb lo hi q. absurd (omega arith))
    (λ r x g lb w there. let a : i + r + 1 ≡ i + (r + 1) = omega arith in
    subst (λ k. Leaves CardState Colour (HasEntries rest k) (run card_meaning (write_dac_entry_plan (colour r)) x).0
    (Edited Colour (Unit {0}) (λ _. i + r) (λ _ y. kept_colour (colour_of (colour r))) g)) a (one_entry rest (colour r) (i + r) x g (omega arith) there))
    n 0 s c (omega arith) (omega arith) (subst (λ k. HasEntries rest k s c) z t)

-- the DAC keeps every bit of a palette's first n entries
abbrev pub keeps_entries : Palette → ℕ → Type 0
keeps_entries palette n = (k : ℕ) → k < n → kept_colour (colour_of (palette_entry palette k)) ≡ colour_of (palette_entry palette k)

-- the same as a test of each component, which can be computed
abbrev is_kept : List ℕ → Bool
is_kept l = (bit_and (slice_index l 0) 0x3F == slice_index l 0)
    && ((bit_and (slice_index l 1) 0x3F == slice_index l 1) && (bit_and (slice_index l 2) 0x3F == slice_index l 2))

keeps_by : (palette : Palette) → agree_below (λ n. is_kept (palette_entry palette n)) (λ _. true) 256 ≡ true → keeps_entries palette 256
keeps_by palette all k l =
    let x = colour_of (palette_entry palette k) in
    let a = both_true (bit_and x.red 0x3F == x.red) _ (agree_below_at (λ n. is_kept (palette_entry palette n)) (λ _. true) 256 k all l) in
    let b = both_true (bit_and x.green 0x3F == x.green) (bit_and x.blue 0x3F == x.blue) a.1 in
    ap (λ n. let y : Colour = record { red = n; green = bit_and x.green 0x3F; blue = bit_and x.blue 0x3F } in y) (same a.0)
    ∙ ap (λ n. let y : Colour = record { red = x.red; green = n; blue = bit_and x.blue 0x3F } in y) (same b.0)
    ∙ ap (λ n. let y : Colour = record { red = x.red; green = x.green; blue = n } in y) (same b.1)

pub keeps : (palette : Palette) → keeps_entries palette 256
keeps Colours64 = keeps_by Colours64 refl
keeps Monochrome = keeps_by Monochrome refl
keeps Colours16 = keeps_by Colours16 refl
keeps Colours256 = keeps_by Colours256 refl
