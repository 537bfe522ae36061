-- Values of six bits stay such, and a DAC is read back from its bytes.
use Rattle.std.proofs.Common.{◌≡◌, ℕ, ◌<◌, ap, ◌∙◌, refl, arith, inl, inr, List, ◌++◌, length, take, drop, length-append}
use Rattle.std.specs.Prelude.{slice_index, slice_set, bit_and}
use Rattle.std.proofs.lemmas.Bool.{cases_lt, cases_eq}
use Rattle.std.proofs.lemmas.List.{take_at, drop_at, get_or_past, get_or-set_same, get_or-set_other, set_past}
use Rattle.std.proofs.lemmas.Nat.{and_le_r}
use Rattle.vga_bits.specs.Bytes.{zeros}
use Rattle.vga_bits.proofs.ByteLemmas.{zeros_at}
use Rattle.vga_dac.specs.declared.component.Component.{Component}
use Rattle.vga_dac.specs.declared.component.Component.TheVariants.{Red, Green, Blue}
use Rattle.vga_dac.specs.Dac.{DacState, IsDac}
use Rattle.vga_dac.specs.Saved.{component_number, component_numbered, saved_bytes_after_entries, saved_dac, AreSixBitValues, IsSavedDac, past_reds, past_greens, past_blues}
use Rattle.vga_dac.specs.Saved.{dac_from}

-- ---- values of six bits

pub small_zeros : (n : ℕ) → AreSixBitValues (zeros n)
small_zeros n = record { small = λ i. omega (arith, zeros_at n i) }

pub small_and : (v : ℕ) → bit_and v 63 < 64
small_and v = omega (arith, and_le_r v 63)

pub small_set : (values : List ℕ) (i v : ℕ) → AreSixBitValues values → v < 64 → AreSixBitValues (slice_set values i v)
small_set values i v are few = record {
  small = λ j. elim (cases_lt i (length values)) [
    | inl within ↦ elim (cases_eq j i) [
      | inl same ↦ omega (arith, ap (slice_index (slice_set values i v)) same, get_or-set_same values i v 0 within, few)
      | inr other ↦ omega (arith, get_or-set_other values i j v 0 other, are.small j)
    ]
    | inr past ↦ omega (arith, ap (λ (l : List ℕ). slice_index l j) (set_past values i v past), are.small j)
  ];
}

-- values are of six bits, where each that is there is
pub small_within : (values : List ℕ) → ((k : ℕ) → k < length values → slice_index values k < 64) → AreSixBitValues values
small_within values small = record {
  small = λ k. elim (cases_lt k (length values)) [
    | inl within ↦ small k within
    | inr past ↦ omega (arith, get_or_past values k 0 past)
  ];
}

-- ---- a DAC and its bytes

component_back : (c : Component) → component_numbered (component_number c) ≡ c
component_back Red = refl
component_back Green = refl
component_back Blue = refl

component_few : (c : Component) → component_number c < 3
component_few Red = omega arith
component_few Green = omega arith
component_few Blue = omega arith

module _ (d : DacState) (is : IsDac d) where
  reds_are : take 256 (saved_dac d) ≡ d.reds
  unfolding saved_dac
  reds_are = take_at d.reds (d.greens ++ (d.blues ++ saved_bytes_after_entries d)) 256 is.reds

  reds_past : past_reds (saved_dac d) ≡ d.greens ++ (d.blues ++ saved_bytes_after_entries d)
  unfolding saved_dac
  reds_past = drop_at d.reds (d.greens ++ (d.blues ++ saved_bytes_after_entries d)) 256 is.reds

  greens_past : past_greens (saved_dac d) ≡ d.blues ++ saved_bytes_after_entries d
  greens_past = ap (drop 256) reds_past ∙ drop_at d.greens (d.blues ++ saved_bytes_after_entries d) 256 is.greens

  blues_past : past_blues (saved_dac d) ≡ saved_bytes_after_entries d
  blues_past = ap (drop 256) greens_past ∙ drop_at d.blues (saved_bytes_after_entries d) 256 is.blues

  greens_are : take 256 (past_reds (saved_dac d)) ≡ d.greens
  greens_are = ap (take 256) reds_past ∙ take_at d.greens (d.blues ++ saved_bytes_after_entries d) 256 is.greens

  blues_are : take 256 (past_greens (saved_dac d)) ≡ d.blues
  blues_are = ap (take 256) greens_past ∙ take_at d.blues (saved_bytes_after_entries d) 256 is.blues

  long : length (saved_dac d) ≡ 773
  unfolding saved_dac
  long = omega (
    arith,
    is.reds,
    is.greens,
    is.blues,
    length-append d.reds (d.greens ++ (d.blues ++ saved_bytes_after_entries d)),
    length-append d.greens (d.blues ++ saved_bytes_after_entries d),
    length-append d.blues (saved_bytes_after_entries d),
  )

  pub dac_is_saved : AreSixBitValues d.reds → AreSixBitValues d.greens → AreSixBitValues d.blues → d.waiting_red < 64 → d.waiting_green < 64 → IsSavedDac (saved_dac d)
  dac_is_saved reds greens blues red green = record {
    size = long;
    reds = rw reds_are reds;
    greens = rw greens_are greens;
    blues = rw blues_are blues;
    counters = rw blues_past (record { component = component_few d.component; waiting_red = red; waiting_green = green });
  }

  pub dac_is_back : dac_from (saved_dac d) ≡ d
  unfolding dac_from
  dac_is_back = rw (reds_are, greens_are, blues_are, blues_past, component_back d.component)
