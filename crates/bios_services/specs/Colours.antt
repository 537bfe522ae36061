-- Function 10: why a subfunction is refused, and what it does and answers in registers.
-- From the IBM PS/2 and PC BIOS Interface Technical Reference, "Interrupt 10H - Video", (AH) = 10H;
-- the refusals are this adapter's choice.
use Rattle.std.specs.Prelude.{ℕ, Bool, ◌+◌, ◌*◌, ◌&&◌, nat_lt, nat_le, Option, Some}
use Rattle.std.specs.Prelude.{None, List}
use Rattle.vga_bits.specs.declared.refusal.Refusal.{Refusal}
use Rattle.vga_bits.specs.declared.refusal.Refusal.TheVariants.{BadRegister}
use Rattle.bios_services.specs.declared.regs.Regs.{Regs}
use Rattle.bios_services.specs.declared.colours.ColourService.{ColourService}
use Rattle.bios_services.specs.declared.colours.ColourService.TheVariants.{SetRegister, SetOverscan}
use Rattle.bios_services.specs.declared.colours.ColourService.TheVariants.{SetPalette, SetBlinking}
use Rattle.bios_services.specs.declared.colours.ColourService.TheVariants.{ReadRegister}
use Rattle.bios_services.specs.declared.colours.ColourService.TheVariants.{ReadOverscan, SetEntry}
use Rattle.bios_services.specs.declared.colours.ColourService.TheVariants.{SetEntries, ReadEntry}
use Rattle.bios_services.specs.declared.colours.ColourService.TheVariants.{SetMask, ReadMask}
use Rattle.bios_services.specs.Plan.{Plan, Done, ◌>>=◌, ◌>>◌, out, inp}
use Rattle.bios_services.specs.Registers.{with_high, with_low}
use Rattle.bios_services.specs.Palette.{set_attribute_register_plan, set_palette_plan, set_blinking_plan}
use Rattle.bios_services.specs.Palette.{read_attribute_register_plan}
use Rattle.bios_services.specs.Dac.{set_entry_plan, set_entries_plan}
use Rattle.bios_services.specs.Reasons.{refuse_unless, refuse_or_wrong_block}
use Rattle.bios_services.specs.VideoRegisters.{dac_mask_port, dac_read_index_port, dac_data_port}

-- a number is none of the 16 palette registers
abbrev pub refuse_unless_palette_register : ℕ → Option Refusal
refuse_unless_palette_register register = refuse_unless (nat_lt register 0x10) BadRegister

-- a number is none of the DAC's 256 entries
abbrev pub refuse_unless_dac_entry : ℕ → Option Refusal
refuse_unless_dac_entry entry = refuse_unless (nat_lt entry 0x100) BadRegister

-- whether the DAC has count entries from entry `first` on
abbrev pub has_dac_entries : ℕ → ℕ → Bool
has_dac_entries first count = nat_lt first 0x100 && nat_le (first + count) 0x100

-- the DAC has fewer than count entries from entry `first` on, or no entry `first`
abbrev pub refuse_unless_dac_entries : ℕ → ℕ → Option Refusal
refuse_unless_dac_entries first count = refuse_unless (has_dac_entries first count) BadRegister

-- how many bytes the block of a subfunction has: the palette registers and the overscan colour, or
-- three of each entry; None if it reads no block
abbrev pub colour_block_len : ColourService → Option ℕ
colour_block_len SetPalette = Some 17
colour_block_len (SetEntries first count) = Some (3 * count)
colour_block_len other = None

-- why a subfunction is refused whatever its block
abbrev pub colour_refusal_besides_block : ColourService → Option Refusal
colour_refusal_besides_block (SetRegister register value) = refuse_unless_palette_register register
colour_refusal_besides_block (SetOverscan value) = None
colour_refusal_besides_block SetPalette = None
colour_refusal_besides_block (SetBlinking blinking) = refuse_unless (nat_le blinking 1) BadRegister
colour_refusal_besides_block (ReadRegister register) = refuse_unless_palette_register register
colour_refusal_besides_block ReadOverscan = None
colour_refusal_besides_block (SetEntry entry red green blue) = refuse_unless_dac_entry entry
colour_refusal_besides_block (SetEntries first count) = refuse_unless_dac_entries first count
colour_refusal_besides_block (ReadEntry entry) = refuse_unless_dac_entry entry
colour_refusal_besides_block (SetMask mask) = None
colour_refusal_besides_block ReadMask = None

-- why a subfunction is refused with a block of this length
abbrev pub colour_refusal : ColourService → ℕ → Option Refusal
colour_refusal service len = refuse_or_wrong_block (colour_refusal_besides_block service) (colour_block_len service) len

-- 15: an entry of the DAC is read, red into DH, green into CH and blue into CL
unfoldable pub read_entry_plan : ℕ → Regs → Plan Regs
read_entry_plan entry r = do
  out dac_read_index_port entry
  red ← inp dac_data_port
  green ← inp dac_data_port
  blue ← inp dac_data_port
  Done (record r { cx = 256 * green + blue; dx = with_high r.dx red })

-- 07 and 08: a register of the attribute controller is read into BH
unfoldable pub read_attribute_register_into_bh : ℕ → ℕ → Regs → Plan Regs
read_attribute_register_into_bh port register r = do
  value ← read_attribute_register_plan port register
  Done (record r { bx = with_high r.bx value })

-- 19: the DAC's mask is read into BL
unfoldable pub read_dac_mask_into_bl : Regs → Plan Regs
read_dac_mask_into_bl r = do
  mask ← inp dac_mask_port
  Done (record r { bx = with_low r.bx mask })

-- what a subfunction that is not refused does and answers; the CRT controller's index is at this
-- port
unfoldable pub colours_plan : ColourService → ℕ → Regs → List ℕ → Plan Regs
colours_plan (SetRegister register value) port r block = set_attribute_register_plan port register value
    >> Done r
colours_plan (SetOverscan value) port r block = set_attribute_register_plan port 0x11 value >> Done r
colours_plan SetPalette port r block = set_palette_plan port block >> Done r
colours_plan (SetBlinking blinking) port r block = set_blinking_plan port blinking >> Done r
colours_plan (ReadRegister register) port r block = read_attribute_register_into_bh port register r
colours_plan ReadOverscan port r block = read_attribute_register_into_bh port 0x11 r
colours_plan (SetEntry entry red green blue) port r block = set_entry_plan entry red green blue
    >> Done r
colours_plan (SetEntries first count) port r block = set_entries_plan first block >> Done r
colours_plan (ReadEntry entry) port r block = read_entry_plan entry r
colours_plan (SetMask mask) port r block = out dac_mask_port mask >> Done r
colours_plan ReadMask port r block = read_dac_mask_into_bl r
