-- All registers as text.
use Rattle.std.specs.Prelude.{ℕ, Bool, if◌then◌else◌, List, [], ◌∷◌, ◌++◌, slice_index, codes}
use Rattle.vga_host.specs.Host.{HostState}
use Rattle.vga_crtc.specs.Crtc.{CrtcState}
use Rattle.vga_attr.specs.Attr.{AttrState}
use Rattle.vga_dac.specs.declared.component.Component.{Component}
use Rattle.vga_dac.specs.declared.component.Component.TheVariants.{Red, Green, Blue}
use Rattle.vga_dac.specs.Dac.{DacState}
use Rattle.vga_card.specs.Card.{CardState}
use Rattle.vga_bits.specs.Hex.{two_hex_digits}
use Rattle.vga_show.specs.Lines.{dump_line, two_hex_digits_each}

-- the word misc, and the miscellaneous output register
unfoldable pub misc_line : ℕ → List ℕ
misc_line misc = dump_line (codes "misc") (two_hex_digits misc ∷ [])

-- a group of n registers: its name, its index and a colon, and its registers
abbrev pub group_line : List ℕ → ℕ → ℕ → List ℕ → List ℕ
group_line name index n registers = dump_line name ((two_hex_digits index ++ codes ":")
    ∷ two_hex_digits_each (slice_index registers) 0 n)

-- the five registers of the sequencer
unfoldable pub seq_line : HostState → List ℕ
seq_line host = group_line (codes "seq") host.seq_index 5 host.seq

-- the 25 registers of the CRT controller
unfoldable pub crtc_line : CrtcState → List ℕ
crtc_line crtc = group_line (codes "crtc") crtc.index 25 crtc.registers

-- the nine registers of the graphics controller
unfoldable pub gfx_line : HostState → List ℕ
gfx_line host = group_line (codes "gfx") host.gfx_index 9 host.gfx

-- the kind of the next write to the attribute controller: i for an index, d for data
abbrev pub next_write_letter : Bool → List ℕ
next_write_letter is_data = if is_data then codes "d" else codes "i"

-- the word attr, the index, the kind of the next write and a colon, and the 21 registers of the
-- attribute controller
unfoldable pub attr_line : AttrState → List ℕ
attr_line attr =
    dump_line (codes "attr") (two_hex_digits attr.index ∷ (next_write_letter attr.is_data ++ codes ":")
    ∷ two_hex_digits_each (slice_index attr.registers) 0 21)

-- the first letter of a component
abbrev pub component_letter : Component → List ℕ
component_letter Red = codes "r"
component_letter Green = codes "g"
component_letter Blue = codes "b"

-- the word dac, the index, the component that comes next, the mask, and the red and the green that
-- wait
unfoldable pub dac_line : DacState → List ℕ
dac_line dac =
    dump_line (codes "dac")
    (two_hex_digits dac.index ∷ component_letter dac.component ∷ two_hex_digits dac.mask
    ∷ two_hex_digits dac.waiting_red ∷ two_hex_digits dac.waiting_green ∷ [])

-- six lines: the miscellaneous output register, the sequencer, the CRT controller, the graphics
-- controller, the attribute controller, and the DAC
abbrev pub regs_text : CardState → List ℕ
regs_text card =
    misc_line card.misc ++ (seq_line card.host ++ (crtc_line card.crtc
    ++ (gfx_line card.host ++ (attr_line card.attr ++ dac_line card.dac))))
