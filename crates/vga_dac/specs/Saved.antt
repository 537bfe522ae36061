-- The DAC as bytes: the reds, the greens and the blues of its entries, the index, the component
-- that the next byte is, the red and the green that wait, and the mask.
use Rattle.std.specs.Prelude.{ℕ, zero, suc, ◌≡◌, ◌<◌, List, [], ◌∷◌, ◌++◌, length, take, drop}
use Rattle.std.specs.Prelude.{slice_index}
use Rattle.vga_dac.specs.declared.component.Component.{Component}
use Rattle.vga_dac.specs.declared.component.Component.TheVariants.{Red, Green, Blue}
use Rattle.vga_dac.specs.Dac.{DacState}

-- the number of a component: red is 0, green 1 and blue 2
abbrev pub component_number : Component → ℕ
component_number Red = 0
component_number Green = 1
component_number Blue = 2

-- the component with this number, 0 to 2
abbrev pub component_numbered : ℕ → Component
component_numbered zero = Red
component_numbered (suc zero) = Green
component_numbered (suc (suc n)) = Blue

-- the bytes after the entries
abbrev pub saved_bytes_after_entries : DacState → List ℕ
saved_bytes_after_entries d = d.index ∷ component_number d.component ∷ d.waiting_red ∷ d.waiting_green
    ∷ d.mask ∷ []

-- the bytes of a DAC
unfoldable pub saved_dac : DacState → List ℕ
saved_dac d = d.reds ++ (d.greens ++ (d.blues ++ saved_bytes_after_entries d))

-- each value fits in six bits
pub record AreSixBitValues (values : List ℕ) : Type 0 where
  pub small : (i : ℕ) → slice_index values i < 64

-- a component and two values of six bits, among what follows the entries
pub record AreSavedBytesAfterEntries (bytes : List ℕ) : Type 0 where
  pub component : slice_index bytes 1 < 3
  pub waiting_red : slice_index bytes 2 < 64
  pub waiting_green : slice_index bytes 3 < 64

-- the bytes after the 256 reds
abbrev pub past_reds : List ℕ → List ℕ
past_reds bytes = drop 256 bytes

-- the bytes after the 256 greens
abbrev pub past_greens : List ℕ → List ℕ
past_greens bytes = drop 256 (past_reds bytes)

-- the bytes after the 256 blues
abbrev pub past_blues : List ℕ → List ℕ
past_blues bytes = drop 256 (past_greens bytes)

-- bytes within the bounds of a DAC: values of six bits, and a component
pub record IsSavedDac (bytes : List ℕ) : Type 0 where
  pub size : length bytes ≡ 773
  pub reds : AreSixBitValues (take 256 bytes)
  pub greens : AreSixBitValues (take 256 (past_reds bytes))
  pub blues : AreSixBitValues (take 256 (past_greens bytes))
  pub counters : AreSavedBytesAfterEntries (past_blues bytes)

-- the DAC that has these bytes
unfoldable pub dac_from : List ℕ → DacState
dac_from bytes = record {
  reds = take 256 bytes;
  greens = take 256 (past_reds bytes);
  blues = take 256 (past_greens bytes);
  index = slice_index (past_blues bytes) 0;
  component = component_numbered (slice_index (past_blues bytes) 1);
  waiting_red = slice_index (past_blues bytes) 2;
  waiting_green = slice_index (past_blues bytes) 3;
  mask = slice_index (past_blues bytes) 4;
}
