-- Which service the registers ask for.
-- From the IBM PS/2 and PC BIOS Interface Technical Reference, "Interrupt 10H - Video": AH is the
-- number of the function.
use Rattle.std.specs.Prelude.{true, false, ◌%◌, ◌==◌, ◌&&◌, nat_lt, nat_le, if◌then◌else◌, Option}
use Rattle.std.specs.Prelude.{Some, None}
use Rattle.bios_services.specs.declared.regs.Regs.{Regs}
use Rattle.bios_services.specs.declared.scroll.Scroll.{Scroll}
use Rattle.bios_services.specs.declared.colours.ColourService.{ColourService}
use Rattle.bios_services.specs.declared.colours.ColourService.TheVariants.{SetRegister, SetOverscan}
use Rattle.bios_services.specs.declared.colours.ColourService.TheVariants.{SetPalette, SetBlinking}
use Rattle.bios_services.specs.declared.colours.ColourService.TheVariants.{ReadRegister}
use Rattle.bios_services.specs.declared.colours.ColourService.TheVariants.{ReadOverscan, SetEntry}
use Rattle.bios_services.specs.declared.colours.ColourService.TheVariants.{SetEntries, ReadEntry}
use Rattle.bios_services.specs.declared.colours.ColourService.TheVariants.{SetMask, ReadMask}
use Rattle.bios_services.specs.declared.tables.TableService.TheVariants.{ReadPalette, ReadEntries}
use Rattle.bios_services.specs.declared.glyph_load.GlyphLoad.{GlyphLoad}
use Rattle.bios_services.specs.declared.call.Call.{Call}
use Rattle.bios_services.specs.declared.call.Call.TheVariants.{SetMode, ReadTable, LoadGlyphs}
use Rattle.bios_services.specs.declared.call.Call.TheVariants.{InMode}
use Rattle.bios_services.specs.declared.call.Service.{Service}
use Rattle.bios_services.specs.declared.call.Service.TheVariants.{SetCursorType, SetCursor}
use Rattle.bios_services.specs.declared.call.Service.TheVariants.{ReadCursor, SelectPage, ScrollUp}
use Rattle.bios_services.specs.declared.call.Service.TheVariants.{ScrollDown, ReadCell, WriteCells}
use Rattle.bios_services.specs.declared.call.Service.TheVariants.{WritePixel, ReadPixel, Teletype}
use Rattle.bios_services.specs.declared.call.Service.TheVariants.{ReadMode, Colours, ReadAdapter}
use Rattle.bios_services.specs.declared.call.Service.TheVariants.{WriteString, ReadDisplay}
use Rattle.bios_services.specs.Registers.{high, low}
use Rattle.bios_services.specs.CellRuns.{cell_run_of}
use Rattle.bios_services.specs.Strings.{string_of}
use Rattle.bios_services.specs.GlyphLoads.{glyph_load_of}

-- the scroll of functions 06 and 07: AL is the number of rows, BH the attribute or colour of new
-- rows, CX the upper left corner and DX the lower right one
abbrev pub scroll_of : Regs → Scroll
scroll_of r = record {
  lines = low r.ax;
  fill = high r.bx;
  top = high r.cx;
  left = low r.cx;
  bottom = high r.dx;
  right = low r.dx;
}

-- the service of a function other than 00, 10 and 11, if there is one
abbrev pub service_of : Regs → Option Service
service_of r =
    let function = high r.ax in
    let al = low r.ax in
    let bh = high r.bx in
    let bl = low r.bx in
    if function == 0x01 then Some (SetCursorType r.cx)
    else if function == 0x02 then Some (SetCursor bh r.dx)
    else if function == 0x03 then Some (ReadCursor bh)
    else if function == 0x05 then Some (SelectPage al)
    else if function == 0x06 then Some (ScrollUp (scroll_of r))
    else if function == 0x07 then Some (ScrollDown (scroll_of r))
    else if function == 0x08 then Some (ReadCell bh)
    else if function == 0x09 then Some (WriteCells (cell_run_of r true))
    else if function == 0x0A then Some (WriteCells (cell_run_of r false))
    else if function == 0x0C then Some (WritePixel bh r.cx r.dx al)
    else if function == 0x0D then Some (ReadPixel bh r.cx r.dx)
    else if function == 0x0E then Some (Teletype al bl)
    else if function == 0x0F then Some ReadMode
    else if (function == 0x12) && (bl == 0x10) then Some ReadAdapter
    else if (function == 0x13) && nat_lt al 4 then Some (WriteString (string_of r))
    else if (function == 0x1A) && (al == 0x00) then Some ReadDisplay
    else None

-- a service as a call that needs a mode
abbrev pub call_in_mode : Option Service → Option Call
call_in_mode None = None
call_in_mode (Some service) = Some (InMode service)

-- a subfunction of function 10 that answers registers alone, as a call
abbrev pub colours_call : ColourService → Option Call
colours_call service = Some (InMode (Colours service))

-- the subfunction of function 10, by AL; 09 and 17 answer a table
abbrev pub colour_call_of : Regs → Option Call
colour_call_of r =
    let al = low r.ax in
    let bh = high r.bx in
    let bl = low r.bx in
    if al == 0x00 then colours_call (SetRegister bl bh)
    else if al == 0x01 then colours_call (SetOverscan bh)
    else if al == 0x02 then colours_call SetPalette
    else if al == 0x03 then colours_call (SetBlinking bl)
    else if al == 0x07 then colours_call (ReadRegister bl)
    else if al == 0x08 then colours_call ReadOverscan
    else if al == 0x09 then Some (ReadTable ReadPalette)
    else if al == 0x10 then colours_call (SetEntry r.bx (high r.dx) (high r.cx) (low r.cx))
    else if al == 0x12 then colours_call (SetEntries r.bx r.cx)
    else if al == 0x15 then colours_call (ReadEntry r.bx)
    else if al == 0x17 then Some (ReadTable (ReadEntries r.bx r.cx))
    else if al == 0x18 then colours_call (SetMask bl)
    else if al == 0x19 then colours_call ReadMask
    else None

-- a load of glyphs, if the call asks for one, or else another call
abbrev pub glyph_load_or : Option GlyphLoad → Option Call → Option Call
glyph_load_or None call = call
glyph_load_or (Some load) call = Some (LoadGlyphs load)

-- what the registers ask for; function 00 sets the mode in the low seven bits of AL, and keeps the
-- memory if bit 7 is 1
abbrev pub call_of : Regs → Option Call
call_of r =
    if high r.ax == 0x00 then Some (SetMode (low r.ax % 128) (nat_le 128 (low r.ax)))
    else if high r.ax == 0x10 then colour_call_of r
    else glyph_load_or (glyph_load_of r) (call_in_mode (service_of r))
