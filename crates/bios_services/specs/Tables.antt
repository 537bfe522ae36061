-- Tables that function 10 answers in the caller's memory: subfunctions 09 and 17.
-- From the IBM PS/2 and PC BIOS Interface Technical Reference, "Interrupt 10H - Video", (AH) = 10H;
-- the order of the cycles and the refusals are this adapter's choice.
use Rattle.std.specs.Prelude.{ℕ, Bool, false, ◌*◌, ◌==◌, ◌&&◌, nat_lt, if◌then◌else◌, Option, None}
use Rattle.std.specs.Prelude.{List, []}
use Rattle.vga_bits.specs.declared.refusal.Refusal.{Refusal}
use Rattle.bios_services.specs.declared.reply.Table.{Table}
use Rattle.bios_services.specs.declared.reply.Table.TheVariants.{Empty, Palette, Dac}
use Rattle.bios_services.specs.declared.tables.TableService.{TableService}
use Rattle.bios_services.specs.declared.tables.TableService.TheVariants.{ReadPalette, ReadEntries}
use Rattle.bios_services.specs.Plan.{Plan, Done, ◌>>=◌, ◌>>◌, out, inp, gather}
use Rattle.bios_services.specs.Cycles.{reset_attribute_flip_flop}
use Rattle.bios_services.specs.Palette.{read_attribute_register_in_index_state_plan}
use Rattle.bios_services.specs.Colours.{has_dac_entries, refuse_unless_dac_entries}
use Rattle.bios_services.specs.VideoRegisters.{dac_read_index_port, dac_data_port}

-- why a subfunction that answers a table is refused
abbrev pub table_refusal : TableService → Option Refusal
table_refusal ReadPalette = None
table_refusal (ReadEntries first count) = refuse_unless_dac_entries first count

-- whether a subfunction allocates memory: 17 does if it is not refused and there is an entry
abbrev pub table_allocates_memory : TableService → Bool
table_allocates_memory ReadPalette = false
table_allocates_memory (ReadEntries first count) = has_dac_entries first count && nat_lt 0 count

-- the register whose value is byte i of the palette: the 16 palette registers, and then the
-- overscan colour
abbrev pub attribute_register_of_palette_byte : ℕ → ℕ
attribute_register_of_palette_byte i = if i == 16 then 0x11 else i

-- the palette registers and the overscan colour, 17 bytes, are read; the attribute controller
-- expects an index
unfoldable pub read_palette_registers_in_index_state_plan : ℕ → Plan (List ℕ)
read_palette_registers_in_index_state_plan port =
    gather (λ i. read_attribute_register_in_index_state_plan port (attribute_register_of_palette_byte i)) 17 0

-- 09: the 16 palette registers and the overscan colour are read; the CRT controller's index is at
-- this port
unfoldable pub read_palette_and_overscan_plan : ℕ → Plan (List ℕ)
read_palette_and_overscan_plan port = do
  reset_attribute_flip_flop port
  read_palette_registers_in_index_state_plan port

-- n bytes are read from the DAC's data
unfoldable pub read_components_plan : ℕ → Plan (List ℕ)
read_components_plan n = gather (λ i. inp dac_data_port) n 0

-- 17: red, green and blue of count entries are read, from entry `first` on
unfoldable pub read_entries_plan : ℕ → ℕ → Plan (List ℕ)
read_entries_plan first count = do
  out dac_read_index_port first
  read_components_plan (3 * count)

-- what a subfunction that is not refused does and answers; the CRT controller's index is at this
-- port
unfoldable pub table_plan : TableService → ℕ → Plan Table
table_plan ReadPalette port = read_palette_and_overscan_plan port >>= λ values. Done (Palette values)
table_plan (ReadEntries first count) port = read_entries_plan first count
    >>= λ values. Done (Dac values)

-- the bytes of a table
abbrev pub table_bytes : Table → List ℕ
table_bytes Empty = []
table_bytes (Palette values) = values
table_bytes (Dac values) = values
