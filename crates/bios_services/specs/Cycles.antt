-- The cycles that services are made of: indexed registers, and the source of the palette.
-- From the IBM PS/2 Hardware Interface Technical Reference, Video Subsystems, "Video Subsystem
-- Registers".
use Rattle.std.specs.Prelude.{ℕ, ◌+◌, List, length, slice_index}
use Rattle.bios_services.specs.Plan.{Plan, Done, ◌>>◌, out, inp, each}
use Rattle.bios_services.specs.VideoRegisters.{attribute_port, sequencer_port, graphics_port}
use Rattle.bios_services.specs.VideoRegisters.{palette_shown_bit}

-- register i of an index port is written; the data port is the next one
abbrev pub write_indexed : ℕ → ℕ → ℕ → Plan (Unit {0})
write_indexed port i v = do
  out port i
  out (port + 1) v

-- a register of the sequencer is written
abbrev pub write_sequencer : ℕ → ℕ → Plan (Unit {0})
write_sequencer i v = write_indexed sequencer_port i v

-- a register of the graphics controller is written
abbrev pub write_graphics : ℕ → ℕ → Plan (Unit {0})
write_graphics i v = write_indexed graphics_port i v

-- a register of the CRT controller is written, whose index is at this port
abbrev pub write_crtc : ℕ → ℕ → ℕ → Plan (Unit {0})
write_crtc port i v = write_indexed port i v

-- a register of the attribute controller is written, which expects an index
abbrev pub write_attribute_register : ℕ → ℕ → Plan (Unit {0})
write_attribute_register i v = do
  out attribute_port i
  out attribute_port v

-- registers 0, 1, .. of an index port are written
unfoldable pub write_registers_from_0 : ℕ → List ℕ → Plan (Unit {0})
write_registers_from_0 port values =
    each (λ i. write_indexed port i (slice_index values i)) (length values) 0

-- registers 0, 1, .. of the attribute controller are written, which expects an index
unfoldable pub write_attribute_registers : List ℕ → Plan (Unit {0})
write_attribute_registers values =
    each (λ i. write_attribute_register i (slice_index values i)) (length values) 0

-- input status 1 is read, so that the attribute controller expects an index; the CRT controller's
-- index is at this port
abbrev pub reset_attribute_flip_flop : ℕ → Plan ℕ
reset_attribute_flip_flop port = inp (port + 6)

-- the palette is shown again
abbrev pub show_palette : ℕ → Plan (Unit {0})
show_palette port = do
  out attribute_port palette_shown_bit
  reset_attribute_flip_flop port
  Done tt
