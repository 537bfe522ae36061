-- What function 10 does to the colours of a plain screen, and what it answers in registers or as a
-- table.
-- From the IBM PS/2 and PC BIOS Interface Technical Reference, "Interrupt 10H - Video", (AH) = 10H.
use Rattle.std.specs.Prelude.{ℕ, zero, suc, ◌+◌, ◌-◌, ◌*◌, ◌==◌, ◌&&◌, nat_lt, nat_le}
use Rattle.std.specs.Prelude.{if◌then◌else◌, List, [], ◌∷◌, ◌++◌, length, slice_index, slice_set}
use Rattle.std.specs.Prelude.{bit_and}
use Rattle.bios_services.specs.declared.regs.Regs.{Regs}
use Rattle.bios_services.specs.declared.colours.ColourService.{ColourService}
use Rattle.bios_services.specs.declared.colours.ColourService.TheVariants.{SetRegister, SetOverscan}
use Rattle.bios_services.specs.declared.colours.ColourService.TheVariants.{SetPalette, SetBlinking}
use Rattle.bios_services.specs.declared.colours.ColourService.TheVariants.{ReadRegister}
use Rattle.bios_services.specs.declared.colours.ColourService.TheVariants.{ReadOverscan, SetEntry}
use Rattle.bios_services.specs.declared.colours.ColourService.TheVariants.{SetEntries, ReadEntry}
use Rattle.bios_services.specs.declared.colours.ColourService.TheVariants.{SetMask, ReadMask}
use Rattle.bios_services.specs.declared.tables.TableService.{TableService}
use Rattle.bios_services.specs.declared.tables.TableService.TheVariants.{ReadPalette, ReadEntries}
use Rattle.bios_services.specs.declared.reply.Table.{Table}
use Rattle.bios_services.specs.declared.reply.Table.TheVariants.{Palette as PaletteTable}
use Rattle.bios_services.specs.declared.reply.Table.TheVariants.{Dac as DacTable}
use Rattle.bios_services.specs.Registers.{with_high, with_low}
use Rattle.bios_screen.specs.Listing.{list_by_function}
use Rattle.bios_screen.specs.Screen.{Palette, Screen}

-- the six bits that the palette's values and the components of the DAC's entries have
abbrev pub six_bits : ℕ → ℕ
six_bits v = bit_and v 0x3F

-- the screen with another value of the palette
abbrev pub with_palette_value : Screen → ℕ → ℕ → Screen
with_palette_value s i v = record s {
  palette = record s.palette {
    values =
        slice_set s.palette.values i (six_bits v);
  };
}

-- the screen with a palette from the first sixteen bytes of a block, and the overscan from the next
abbrev pub with_palette_and_overscan : Screen → List ℕ → Screen
with_palette_and_overscan s block = record s {
  palette = record s.palette {
    values = list_by_function (λ i. six_bits (slice_index block i)) 0
        16;
  };
  overscan = slice_index block 16;
}

-- one component of all entries, 0 red, 1 green or 2 blue, after count entries from entry `first` on
-- got theirs from a block of three bytes each
abbrev pub component_with_entries : List ℕ → ℕ → ℕ → List ℕ → ℕ → List ℕ
component_with_entries old first count block i =
    list_by_function (λ k. if nat_le first k && nat_lt k (first + count)
    then six_bits (slice_index block (3 * (k - first) + i))
    else slice_index old k) 0 (length old)

-- the screen after count entries from entry `first` on got their colours from a block
abbrev pub with_entries : Screen → ℕ → ℕ → List ℕ → Screen
with_entries s first count block = record s {
  palette = record s.palette {
    reds = component_with_entries s.palette.reds first count block 0;
    greens = component_with_entries s.palette.greens first count block 1;
    blues = component_with_entries s.palette.blues first count block 2;
  };
}

-- the screen after a subfunction that is not refused
unfoldable pub with_colours : Screen → ColourService → List ℕ → Screen
with_colours s (SetRegister register value) block = with_palette_value s register value
with_colours s (SetOverscan value) block = record s { overscan = value }
with_colours s SetPalette block = with_palette_and_overscan s block
with_colours s (SetBlinking blinking) block = record s { is_blink = blinking == 1 }
with_colours s (ReadRegister register) block = s
with_colours s ReadOverscan block = s
with_colours s (SetEntry entry red green blue) block =
    with_entries s entry 1 (red ∷ green ∷ blue ∷ [])
with_colours s (SetEntries first count) block = with_entries s first count block
with_colours s (ReadEntry entry) block = s
with_colours s (SetMask mask) block = record s { palette = record s.palette { mask = mask } }
with_colours s ReadMask block = s

-- the registers that a subfunction answers: a palette value or the overscan in BH; red in DH, green
-- in CH and blue in CL; the mask in BL
unfoldable pub colours_answer : Screen → ColourService → Regs → Regs
colours_answer s (SetRegister register value) r = r
colours_answer s (SetOverscan value) r = r
colours_answer s SetPalette r = r
colours_answer s (SetBlinking blinking) r = r
colours_answer s (ReadRegister register) r = record r {
  bx =
      with_high r.bx (slice_index s.palette.values register);
}
colours_answer s ReadOverscan r = record r { bx = with_high r.bx s.overscan }
colours_answer s (SetEntry entry red green blue) r = r
colours_answer s (SetEntries first count) r = r
colours_answer s (ReadEntry entry) r =
    record r {
      cx = 256 * slice_index s.palette.greens entry + slice_index s.palette.blues entry;
      dx = with_high r.dx (slice_index s.palette.reds entry);
    }
colours_answer s (SetMask mask) r = r
colours_answer s ReadMask r = record r { bx = with_low r.bx s.palette.mask }

-- red, green and blue of n entries from entry k on
abbrev pub entry_bytes_from : Palette → ℕ → ℕ → List ℕ
entry_bytes_from p k zero = []
entry_bytes_from p k (suc n) = slice_index p.reds k ∷ slice_index p.greens k ∷ slice_index p.blues k
    ∷ entry_bytes_from p (k + 1) n

-- the table that a subfunction answers: the palette's values and then the overscan, or entries
abbrev pub table_answer : Screen → TableService → Table
table_answer s ReadPalette = PaletteTable (s.palette.values ++ s.overscan ∷ [])
table_answer s (ReadEntries first count) = DacTable (entry_bytes_from s.palette first count)
