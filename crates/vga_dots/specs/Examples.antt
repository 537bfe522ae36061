-- States on which the worked examples check the definitions: the registers of the modes 7, 12 and
-- 13 (hexadecimal), as the BIOS sets them, but for what an example says.
-- From the IBM PS/2 Hardware Interface Technical Reference, Video Subsystems.
use Rattle.std.specs.Prelude.{ℕ, List, [], ◌∷◌, ◌++◌, replicate, false}
use Rattle.vga_bits.specs.Four.{Four}
use Rattle.vga_host.specs.Host.{HostState}
use Rattle.vga_host.specs.Examples.{planes_of, bytes_of, graphics}
use Rattle.vga_crtc.specs.Crtc.{CrtcState}
use Rattle.vga_attr.specs.Attr.{AttrState}
use Rattle.vga_dac.specs.Dac.{DacState, power_on_dac}

-- a host path with these registers of sequencer and graphics controller, and this memory
abbrev pub host_of : List ℕ → List ℕ → Four (List ℕ) → HostState
host_of seq gfx memory = record {
  memory = memory;
  latches = bytes_of 0 0 0 0;
  seq = seq;
  gfx = gfx;
  seq_index = 0;
  gfx_index = 0;
}

-- a CRT controller with these registers, whose beam is at a dot of character 1, at a scan line of a
-- frame; characters are counted from 0 on
abbrev pub crtc_of : List ℕ → ℕ → ℕ → ℕ → CrtcState
crtc_of registers frame scan dot = record {
  registers = registers;
  index = 0;
  beam = record {
    frame = frame;
    line = scan;
    character = 1;
    dot = dot;
    base = 0;
    scan = scan;
    half = false;
    split = false;
  };
}

-- an attribute controller with these registers that shows the palette
abbrev pub attr_of : List ℕ → AttrState
attr_of registers = record { registers = registers; index = 0x20; is_data = false }

-- a DAC with this mask whose entry i, the last of those that aren't black, is a grey
abbrev pub dac_with_grey : ℕ → ℕ → ℕ → DacState
dac_with_grey mask i grey = record power_on_dac {
  reds = replicate i 0 ++ grey ∷ [];
  greens = replicate i 0 ++ grey ∷ [];
  blues = replicate i 0 ++ grey ∷ [];
  mask = mask;
}

-- ---- mode 7: character 1 with attribute 81 at address 2; the first row of its glyph is 18

abbrev pub host_of_mode_7 : HostState
host_of_mode_7 = host_of (3 ∷ 0 ∷ 3 ∷ 0 ∷ 2 ∷ []) (graphics 0 0 0 0 0 0x10 0x0A 0 0xFF)
    (planes_of (0 ∷ 0 ∷ 1 ∷ []) (0 ∷ 0 ∷ 0x81 ∷ []) (replicate 32 0 ++ 0x18 ∷ []) [])

-- the cursor is at counter 1, from scan line 0D to 0E; underline is at scan line 0F
abbrev pub crtc_of_mode_7 : ℕ → ℕ → ℕ → CrtcState
crtc_of_mode_7 = crtc_of (0x5F ∷ 0x4F ∷ 0x50 ∷ 0x82 ∷ 0x55 ∷ 0x81 ∷ 0xBF ∷ 0x1F ∷ 0x00 ∷ 0x4F
    ∷ 0x0D ∷ 0x0E ∷ 0x00 ∷ 0x00 ∷ 0x00 ∷ 0x01 ∷ 0x9C ∷ 0x8E ∷ 0x8F ∷ 0x28 ∷ 0x0F ∷ 0x96
    ∷ 0xB9 ∷ 0xA3 ∷ 0xFF ∷ [])

abbrev pub attr_of_mode_7 : AttrState
attr_of_mode_7 = attr_of (0x00 ∷ 0x08 ∷ 0x08 ∷ 0x08 ∷ 0x08 ∷ 0x08 ∷ 0x08 ∷ 0x08 ∷ 0x10 ∷ 0x18
    ∷ 0x18 ∷ 0x18 ∷ 0x18 ∷ 0x18 ∷ 0x18 ∷ 0x18 ∷ 0x0E ∷ 0x00 ∷ 0x0F ∷ 0x08 ∷ 0x00 ∷ [])

-- ---- mode 12: at address 1, dot 0 has its bit in plane 3, and dot 1 has its in planes 1 and 2

abbrev pub host_of_mode_12 : HostState
host_of_mode_12 = host_of (3 ∷ 1 ∷ 0x0F ∷ 0 ∷ 6 ∷ []) (graphics 0 0 0 0 0 0 0x05 0x0F 0xFF)
    (planes_of (0 ∷ 0 ∷ []) (0 ∷ 0x40 ∷ []) (0 ∷ 0x40 ∷ []) (0 ∷ 0x80 ∷ []))

abbrev pub crtc_of_mode_12 : ℕ → ℕ → ℕ → CrtcState
crtc_of_mode_12 = crtc_of (0x5F ∷ 0x4F ∷ 0x50 ∷ 0x82 ∷ 0x54 ∷ 0x80 ∷ 0x0B ∷ 0x3E ∷ 0x00 ∷ 0x40
    ∷ 0x00 ∷ 0x00 ∷ 0x00 ∷ 0x00 ∷ 0x00 ∷ 0x00 ∷ 0xEA ∷ 0x8C ∷ 0xDF ∷ 0x28 ∷ 0x00 ∷ 0xE7
    ∷ 0x04 ∷ 0xE3 ∷ 0xFF ∷ [])

-- with this mode control, colour plane enable and colour select
abbrev pub attr_of_mode_12 : ℕ → ℕ → ℕ → AttrState
attr_of_mode_12 mode_control colour_plane_enable colour_select =
    attr_of (0x00 ∷ 0x01 ∷ 0x02 ∷ 0x03 ∷ 0x04 ∷ 0x05 ∷ 0x14 ∷ 0x07 ∷ 0x38 ∷ 0x39 ∷ 0x3A ∷ 0x3B
    ∷ 0x3C ∷ 0x3D ∷ 0x3E ∷ 0x3F ∷ mode_control ∷ 0x00 ∷ colour_plane_enable ∷ 0x00
    ∷ colour_select ∷ [])

-- ---- mode 13: at address 4 the planes have the bytes 11, 22, 2A and 44, and at address 8 plane 0
-- has 88

abbrev pub host_of_mode_13 : HostState
host_of_mode_13 = host_of (3 ∷ 1 ∷ 0x0F ∷ 0 ∷ 0x0E ∷ [])
    (graphics 0 0 0 0 0 0x40 0x05 0x0F 0xFF)
    (planes_of (0 ∷ 0 ∷ 0 ∷ 0 ∷ 0x11 ∷ 0 ∷ 0 ∷ 0 ∷ 0x88 ∷ []) (0 ∷ 0 ∷ 0 ∷ 0 ∷ 0x22 ∷ [])
    (0 ∷ 0 ∷ 0 ∷ 0 ∷ 0x2A ∷ []) (0 ∷ 0 ∷ 0 ∷ 0 ∷ 0x44 ∷ []))

abbrev pub crtc_of_mode_13 : ℕ → ℕ → ℕ → CrtcState
crtc_of_mode_13 = crtc_of (0x5F ∷ 0x4F ∷ 0x50 ∷ 0x82 ∷ 0x54 ∷ 0x80 ∷ 0xBF ∷ 0x1F ∷ 0x00 ∷ 0x41
    ∷ 0x00 ∷ 0x00 ∷ 0x00 ∷ 0x00 ∷ 0x00 ∷ 0x00 ∷ 0x9C ∷ 0x8E ∷ 0x8F ∷ 0x28 ∷ 0x40 ∷ 0x96
    ∷ 0xB9 ∷ 0xA3 ∷ 0xFF ∷ [])

-- with this panning
abbrev pub attr_of_mode_13 : ℕ → AttrState
attr_of_mode_13 panning =
    attr_of (0x00 ∷ 0x01 ∷ 0x02 ∷ 0x03 ∷ 0x04 ∷ 0x05 ∷ 0x06 ∷ 0x07 ∷ 0x08 ∷ 0x09 ∷ 0x0A ∷ 0x0B
    ∷ 0x0C ∷ 0x0D ∷ 0x0E ∷ 0x0F ∷ 0x41 ∷ 0x00 ∷ 0x0F ∷ panning ∷ 0x00 ∷ [])
