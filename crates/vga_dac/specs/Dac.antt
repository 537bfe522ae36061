-- The DAC: its entries, and the sequence of bytes that writes and reads them.
-- From the IBM PS/2 Hardware Interface Technical Reference, Video Subsystems, "Video
-- Digital-to-Analog Converter".
-- That there is one index and one counter for both directions is this adapter's choice.
use Rattle.std.specs.Prelude.{ℕ, ◌≡◌, ◌+◌, ◌%◌, ◌<◌, List, [], ◌∷◌, length, slice_index, slice_set}
use Rattle.std.specs.Prelude.{bit_and, slice_index_or}
use Rattle.vga_bits.specs.Bytes.{zeros}
use Rattle.vga_dac.specs.declared.component.Component.{Component}
use Rattle.vga_dac.specs.declared.component.Component.TheVariants.{Red, Green, Blue}

-- the red, green and blue of each entry, the index, the component that the next byte is, the red
-- and green that wait for blue, and the mask
pub record DacState : Type 0 where
  pub reds : List ℕ
  pub greens : List ℕ
  pub blues : List ℕ
  pub index : ℕ
  pub component : Component
  pub waiting_red : ℕ
  pub waiting_green : ℕ
  pub mask : ℕ

-- the DAC at power-on: the mask is FF, everything else is 0, and red is next
abbrev pub power_on_dac : DacState
power_on_dac = record {
  reds = zeros 256;
  greens = zeros 256;
  blues = zeros 256;
  index = 0;
  component = Red;
  waiting_red = 0;
  waiting_green = 0;
  mask = 0xFF;
}

-- a list of 256 values for each component
pub record IsDac (d : DacState) : Type 0 where
  pub reds : length d.reds ≡ 256
  pub greens : length d.greens ≡ 256
  pub blues : length d.blues ≡ 256

-- red, green and blue of entry i
abbrev pub entry_of : DacState → ℕ → List ℕ
entry_of d i = slice_index d.reds i ∷ slice_index d.greens i ∷ slice_index d.blues i ∷ []

-- The first n entries have these components, and one more byte, 0, each. They are kept in this form
-- for speed alone.
pub record ArePaddedEntries (n : ℕ) (entries : List (List ℕ)) (reds greens blues : List
    ℕ) : Type 0 where
  pub each : (i : ℕ) → i < n → slice_index_or entries i []
      ≡ slice_index reds i ∷ slice_index greens i ∷ slice_index blues i ∷ 0 ∷ []

-- an index is written, for writing or for reading: red is next
abbrev pub after_index_write : DacState → ℕ → DacState
after_index_write d v = record d { index = v; component = Red }

-- the component after this one
abbrev pub next_component : Component → Component
next_component Red = Green
next_component Green = Blue
next_component Blue = Red

-- the index after a byte of this component: after blue the next one, modulo 256
abbrev pub next_index : Component → ℕ → ℕ
next_index Red i = i
next_index Green i = i
next_index Blue i = (i + 1) % 256

-- a component of entry i
abbrev pub component_of : DacState → Component → ℕ → ℕ
component_of d Red i = slice_index d.reds i
component_of d Green i = slice_index d.greens i
component_of d Blue i = slice_index d.blues i

-- the byte that a read of a component returns: the next component of the entry that the index
-- selects
abbrev pub component_value_read : DacState → ℕ
component_value_read d = component_of d d.component d.index

-- the DAC after a component is read or written: the component moves on, and after blue the index
-- does too
abbrev pub after_component_read : DacState → DacState
after_component_read d = record d {
  component = next_component d.component;
  index = next_index d.component d.index;
}

-- what a value does as this component: red and green wait, and blue stores all three in the entry
abbrev pub with_component_written : DacState → Component → ℕ → DacState
with_component_written d Red value = record d { waiting_red = value }
with_component_written d Green value = record d { waiting_green = value }
with_component_written d Blue value = record d {
  reds = slice_set d.reds d.index d.waiting_red;
  greens = slice_set d.greens d.index d.waiting_green;
  blues = slice_set d.blues d.index value;
}

-- the DAC after a component is written, of which it keeps six bits
abbrev pub after_component_write : DacState → ℕ → DacState
after_component_write d v =
    after_component_read (with_component_written d d.component (bit_and v 0x3F))
