-- The state of a machine, as the caller gets it.
use Rattle.std.specs.Prelude.{◌≡◌, ◌+◌, ◌<◌, ◌&&◌, ℕ, true, false, nat_lt, nat_le, Bool}
use Rattle.std.specs.Prelude.{if◌then◌else◌, List, [], ◌∷◌, length, slice_index}
use Rattle.vga_bits.specs.Four.{Four}
use Rattle.vga_planes.specs.Planes.{byte_at}
use Rattle.vga_dac.specs.declared.component.Component.{Component}
use Rattle.vga_dac.specs.declared.component.Component.TheVariants.{Red, Green, Blue}
use Rattle.vga_card.specs.Dots.{dots_of_frame_so_far}
use Rattle.vga_card.specs.Picture.{row_count}
use Rattle.vga_run.specs.declared.machine.Machine.{Machine}
use Rattle.vga_c.specs.Handle.{HandleState, machine_after_owed_dots}
use Rattle.vga_c.specs.declared.state.Registers.{Registers}
use Rattle.vga_c.specs.declared.state.Colour.{Colour}
use Rattle.vga_c.specs.declared.state.Beam.{Beam}
use Rattle.vga_c.specs.declared.state.Latches.{Latches}
use Rattle.vga_c.specs.declared.state.BiosDataArea.{BiosDataArea}
use Rattle.vga_c.specs.Status.{bad_argument_status}

-- a flag as a number: 1 if it is set, otherwise 0
abbrev pub flag : Bool → ℕ
flag is_set = if is_set then 1 else 0

-- the number of the component that comes next
abbrev pub component_number : Component → ℕ
component_number Red = 0
component_number Green = 1
component_number Blue = 2

-- all registers, with the indexes, the flip-flop, and the state of the DAC's sequences
abbrev pub registers_in : Machine → Registers
registers_in m = record {
  misc = m.card.misc;
  seq_index = m.card.host.seq_index;
  seq = m.card.host.seq;
  crtc_index = m.card.crtc.index;
  crtc = m.card.crtc.registers;
  gfx_index = m.card.host.gfx_index;
  gfx = m.card.host.gfx;
  attr_index = m.card.attr.index;
  attr_is_data = flag m.card.attr.is_data;
  attr = m.card.attr.registers;
  dac_index = m.card.dac.index;
  dac_component = component_number m.card.dac.component;
  dac_mask = m.card.dac.mask;
  dac_waiting_red = m.card.dac.waiting_red;
  dac_waiting_green = m.card.dac.waiting_green;
}

-- entry i of the DAC
abbrev pub colour_in : ℕ → Machine → Colour
colour_in i m = record {
  red = slice_index m.card.dac.reds i;
  green = slice_index m.card.dac.greens i;
  blue = slice_index m.card.dac.blues i;
}

-- the beam, and how many rows are drawn of the frame under way
abbrev pub beam_in : Machine → Beam
beam_in m = record {
  line = m.card.crtc.beam.line;
  character = m.card.crtc.beam.character;
  dot = m.card.crtc.beam.dot;
  base = m.card.crtc.beam.base;
  scan = m.card.crtc.beam.scan;
  rows = row_count (dots_of_frame_so_far m.card);
  frame = m.card.crtc.beam.frame;
  half = flag m.card.crtc.beam.half;
  split = flag m.card.crtc.beam.split;
}

-- the latch of each plane
abbrev pub latches_in : Machine → Latches
latches_in m = record {
  plane = m.card.host.latches.plane0 ∷ m.card.host.latches.plane1 ∷ m.card.host.latches.plane2
      ∷ m.card.host.latches.plane3 ∷ [];
}

-- the BIOS data
abbrev pub bda_in : Machine → BiosDataArea
bda_in m = record {
  columns = m.bda.columns;
  size = m.bda.size;
  start = m.bda.start;
  cursor_places = m.bda.cursor_places;
  cursor_type = m.bda.cursor_type;
  crtc_address = m.bda.crtc_address;
  height = m.bda.height;
  mode = m.bda.mode;
  page = m.bda.page;
  last_row = m.bda.last_row;
}

-- The output has bytes of a plane, from an offset on, as many as it has room for.
pub record IsPlanePart (memory : Four (List ℕ)) (plane offset : ℕ) (old new : List ℕ) : Type 0 where
  pub bytes : (i : ℕ) → i < length old → slice_index new i ≡ byte_at memory plane (offset + i)
  pub size : length new ≡ length old

-- whether `count` bytes from an offset on lie within a plane
abbrev pub is_in_plane : ℕ → ℕ → ℕ → Bool
is_in_plane plane offset count = nat_lt plane 4 && nat_le (offset + count) 0x1_0000

-- the output has bytes of a plane, if they lie within it; otherwise it is unchanged and the status
-- says so
abbrev pub ReadsPlanePartOrRefuses : Four (List ℕ) → ℕ → ℕ → List ℕ → List ℕ → ℕ → Type 0
ReadsPlanePartOrRefuses memory plane offset old new status =
    (is_in_plane plane offset (length old) ≡ true →
    IsPlanePart memory plane offset old new × (status ≡ 0))
    × (is_in_plane plane offset (length old) ≡ false → (new ≡ old) × (status ≡ bad_argument_status))

-- the output has bytes of a plane of an open card's memory, if they lie within the plane
abbrev pub OpenCardTellsPlanePart : ℕ → ℕ → HandleState → List ℕ → List ℕ → ℕ → Type 0
OpenCardTellsPlanePart plane offset card old new status = card.is_open ≡ true →
    ReadsPlanePartOrRefuses (machine_after_owed_dots card).card.host.memory plane offset old new status
