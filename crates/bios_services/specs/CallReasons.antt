-- Reasons why a call is refused: which refusal each explains, and what it says of the call and of
-- the BIOS data.
-- From the IBM PS/2 and PC BIOS Interface Technical Reference, "Interrupt 10H - Video"; the
-- refusals are this adapter's choice.
use Rattle.std.specs.Prelude.{ℕ, true, false, ◌≡◌, ◌⊎◌, ◌+◌, ◌<◌, ◌≤◌, ◌&&◌, ◌==◌, nat_lt}
use Rattle.std.specs.Prelude.{if◌then◌else◌, Option, Some, None, Result, Ok, Err, List, length}
use Rattle.vga_bits.specs.declared.refusal.Refusal.{Refusal}
use Rattle.vga_bits.specs.declared.refusal.Refusal.TheVariants.{NoMode, BadFunction, BadMode}
use Rattle.vga_bits.specs.declared.refusal.Refusal.TheVariants.{WrongKind, BadPage, Outside}
use Rattle.vga_bits.specs.declared.refusal.Refusal.TheVariants.{CountPast, BadRegister, BadBlock}
use Rattle.vga_bits.specs.declared.refusal.Refusal.TheVariants.{BadHeight}
use Rattle.vga_card.specs.Bus.{BusMeaning}
use Rattle.bios_modes.specs.Fonts.{FontSet}
use Rattle.bios_modes.specs.declared.modes.ModeRow.{ModeRow}
use Rattle.bios_modes.specs.Bda.{BiosData}
use Rattle.bios_modes.specs.Kinds.{is_text}
use Rattle.bios_modes.specs.Modes.{mode_row}
use Rattle.bios_modes.specs.Heights.{mode_row_at_height}
use Rattle.bios_services.specs.declared.regs.Regs.{Regs}
use Rattle.bios_services.specs.declared.reply.Reply.{Reply}
use Rattle.bios_services.specs.declared.call_reason.CallReason.{CallReason}
use Rattle.bios_services.specs.declared.call_reason.CallReason.TheVariants.{NoModeSet, NoService}
use Rattle.bios_services.specs.declared.call_reason.CallReason.TheVariants.{NoSuchMode, NoPixels}
use Rattle.bios_services.specs.declared.call_reason.CallReason.TheVariants.{NoCharacterMap, NoPage}
use Rattle.bios_services.specs.declared.call_reason.CallReason.TheVariants.{CursorOutside}
use Rattle.bios_services.specs.declared.call_reason.CallReason.TheVariants.{PositionOutside}
use Rattle.bios_services.specs.declared.call_reason.CallReason.TheVariants.{PixelOutside, CellsPast}
use Rattle.bios_services.specs.declared.call_reason.CallReason.TheVariants.{GlyphsPast}
use Rattle.bios_services.specs.declared.call_reason.CallReason.TheVariants.{NoPaletteRegister}
use Rattle.bios_services.specs.declared.call_reason.CallReason.TheVariants.{NoBlinking, NoEntry}
use Rattle.bios_services.specs.declared.call_reason.CallReason.TheVariants.{NoEntries, WrongBlock}
use Rattle.bios_services.specs.declared.call_reason.CallReason.TheVariants.{NoHeight}
use Rattle.bios_services.specs.declared.call.Call.{Call}
use Rattle.bios_services.specs.declared.call.Call.TheVariants.{SetMode, ReadTable, LoadGlyphs}
use Rattle.bios_services.specs.declared.call.Call.TheVariants.{InMode}
use Rattle.bios_services.specs.declared.call.Service.{Service}
use Rattle.bios_services.specs.declared.call.Service.TheVariants.{SetCursor, ReadCursor}
use Rattle.bios_services.specs.declared.call.Service.TheVariants.{SelectPage, ReadCell, WriteCells}
use Rattle.bios_services.specs.declared.call.Service.TheVariants.{WritePixel, ReadPixel, Teletype}
use Rattle.bios_services.specs.declared.call.Service.TheVariants.{Colours, WriteString}
use Rattle.bios_services.specs.declared.cell_run.CellRun.{CellRun}
use Rattle.bios_services.specs.declared.colours.ColourService.{ColourService}
use Rattle.bios_services.specs.declared.colours.ColourService.TheVariants.{SetRegister}
use Rattle.bios_services.specs.declared.colours.ColourService.TheVariants.{SetBlinking}
use Rattle.bios_services.specs.declared.colours.ColourService.TheVariants.{ReadRegister, SetEntry}
use Rattle.bios_services.specs.declared.colours.ColourService.TheVariants.{SetEntries, ReadEntry}
use Rattle.bios_services.specs.declared.tables.TableService.{TableService}
use Rattle.bios_services.specs.declared.tables.TableService.TheVariants.{ReadEntries}
use Rattle.bios_services.specs.declared.glyph_load.GlyphLoad.{GlyphLoad}
use Rattle.bios_services.specs.Registers.{high, low}
use Rattle.bios_services.specs.Calls.{call_of}
use Rattle.bios_services.specs.Bounds.{page_count}
use Rattle.bios_services.specs.Cells.{cells_per_page}
use Rattle.bios_services.specs.Cursor.{cursor_cell_number, cursor_position_of, row_of_position}
use Rattle.bios_services.specs.Cursor.{column_of_position}
use Rattle.bios_services.specs.Pixels.{pixels_across, pixels_down}
use Rattle.bios_services.specs.Colours.{has_dac_entries}
use Rattle.bios_services.specs.Tables.{table_refusal}
use Rattle.bios_services.specs.GlyphLoads.{glyphs_block_len, load_refusal}
use Rattle.bios_services.specs.Reasons.{◌or◌}
use Rattle.bios_services.specs.Refusals.{service_block_len, service_with_page_or_0_if_only_one}
use Rattle.bios_services.specs.Refusals.{refusal_in_mode, refusal_of_unknown_call}
use Rattle.bios_services.specs.Plan.{run}
use Rattle.bios_services.specs.Service.{service}

-- the refusal that a reason explains
abbrev pub refusal_of : CallReason → Refusal
refusal_of (NoModeSet function) = NoMode
refusal_of (NoService function al bl) = BadFunction
refusal_of (NoSuchMode mode) = BadMode
refusal_of (NoPixels mode) = WrongKind
refusal_of (NoCharacterMap mode) = WrongKind
refusal_of (NoPage page pages) = BadPage
refusal_of (CursorOutside page cell cells) = Outside
refusal_of (PositionOutside row column rows columns) = Outside
refusal_of (PixelOutside x y width height) = Outside
refusal_of (CellsPast count first cells) = CountPast
refusal_of (GlyphsPast count first) = CountPast
refusal_of (NoPaletteRegister register) = BadRegister
refusal_of (NoBlinking value) = BadRegister
refusal_of (NoEntry entry) = BadRegister
refusal_of (NoEntries count first) = BadRegister
refusal_of (WrongBlock len wanted) = BadBlock
refusal_of (NoHeight height mode) = BadHeight

-- the refusal that a reason explains, if there is a reason
abbrev pub refusal_of_reason : Option CallReason → Option Refusal
refusal_of_reason None = None
refusal_of_reason (Some reason) = Some (refusal_of reason)

-- the refusal where something is refused for a reason
abbrev pub refusal_of_outcome : Result (Unit {0}) CallReason → Option Refusal
refusal_of_outcome (Ok done) = None
refusal_of_outcome (Err reason) = Some (refusal_of reason)

-- Why a subfunction of function 10 is refused whatever its block: there is no such palette
-- register, state of blinking, or entry of the DAC.
abbrev pub ExplainsColours : ColourService → CallReason → Type 0
ExplainsColours (SetRegister named value) (NoPaletteRegister register) =
    (register ≡ named) × (0x10 ≤ register)
ExplainsColours (ReadRegister named) (NoPaletteRegister register) =
    (register ≡ named) × (0x10 ≤ register)
ExplainsColours (SetBlinking blinking) (NoBlinking value) = (value ≡ blinking) × (1 < value)
ExplainsColours (SetEntry named red green blue) (NoEntry entry) =
    (entry ≡ named) × (0x100 ≤ entry)
ExplainsColours (ReadEntry named) (NoEntry entry) = (entry ≡ named) × (0x100 ≤ entry)
ExplainsColours (SetEntries named number) (NoEntries count first) =
    (first ≡ named) × (count ≡ number) × (has_dac_entries first count ≡ false)
ExplainsColours service other = ⊥

-- why a subfunction that answers a table is refused: the DAC has not so many entries
abbrev pub ExplainsTable : TableService → CallReason → Type 0
ExplainsTable (ReadEntries named number) (NoEntries count first) =
    (first ≡ named) × (count ≡ number) × (has_dac_entries first count ≡ false)
ExplainsTable service other = ⊥

-- the mode that is set has no such page
abbrev pub IsNoPage : BiosData → ℕ → CallReason → Type 0
IsNoPage d named (NoPage page pages) = (page ≡ named) × (pages ≡ page_count d) × (pages ≤ page)
IsNoPage d named other = ⊥

-- the cursor of a page stands past its last cell
abbrev pub IsCursorOutside : BiosData → ℕ → CallReason → Type 0
IsCursorOutside d named (CursorOutside page cell cells) =
    (page ≡ named) × (cell ≡ cursor_cell_number d page) × (cells ≡ cells_per_page d)
    × (cells ≤ cell)
IsCursorOutside d named other = ⊥

-- a page has no cell at a cursor position
abbrev pub IsPositionOutside : BiosData → ℕ → CallReason → Type 0
IsPositionOutside d position (PositionOutside row column rows columns) =
    (row ≡ row_of_position position) × (column ≡ column_of_position position)
    × (rows ≡ d.last_row + 1) × (columns ≡ d.columns)
    × ((nat_lt row rows && nat_lt column columns) ≡ false)
IsPositionOutside d position other = ⊥

-- so many cells from the cursor of a page pass its last cell
abbrev pub AreCellsPast : BiosData → CellRun → CallReason → Type 0
AreCellsPast d run (CellsPast count first cells) =
    (count ≡ run.count) × (first ≡ cursor_cell_number d run.page) × (cells ≡ cells_per_page d)
    × (cells < first + count)
AreCellsPast d run other = ⊥

-- the mode has no pixels, no such page, or no such pixel
abbrev pub IsNoPixel : BiosData → ℕ → ℕ → ℕ → CallReason → Type 0
IsNoPixel d page across down (NoPixels mode) = (mode ≡ d.mode) × (is_text mode ≡ true)
IsNoPixel d page across down (PixelOutside x y width height) =
    (x ≡ across) × (y ≡ down) × (width ≡ pixels_across d) × (height ≡ pixels_down d)
    × ((nat_lt x width && nat_lt y height) ≡ false)
IsNoPixel d page across down reason = IsNoPage d page reason

-- why a service is refused in the mode that is set, whatever its block
abbrev pub ExplainsBesidesBlock : Service → BiosData → CallReason → Type 0
ExplainsBesidesBlock (SetCursor page position) d reason = IsNoPage d page reason
ExplainsBesidesBlock (ReadCursor page) d reason = IsNoPage d page reason
ExplainsBesidesBlock (SelectPage page) d reason = IsNoPage d page reason
ExplainsBesidesBlock (ReadCell page) d reason =
    IsNoPage d page reason ⊎ IsCursorOutside d page reason
ExplainsBesidesBlock (WriteCells run) d reason =
    IsNoPage d run.page reason ⊎ IsCursorOutside d run.page reason ⊎ AreCellsPast d run reason
ExplainsBesidesBlock (WritePixel page x y colour) d reason = IsNoPixel d page x y reason
ExplainsBesidesBlock (ReadPixel page x y) d reason = IsNoPixel d page x y reason
ExplainsBesidesBlock (Teletype character colour) d reason =
    IsPositionOutside d (cursor_position_of d d.page) reason
ExplainsBesidesBlock (WriteString string) d reason =
    IsNoPage d string.page reason ⊎ IsPositionOutside d string.position reason
ExplainsBesidesBlock (Colours service) d reason = ExplainsColours service reason
ExplainsBesidesBlock service d reason = ⊥

-- a block of n bytes has another length than the one that is read
abbrev pub IsWrongBlock : Option ℕ → ℕ → CallReason → Type 0
IsWrongBlock size n (WrongBlock len wanted) = (len ≡ n) × (size ≡ Some wanted) × ¬ (len ≡ wanted)
IsWrongBlock size n other = ⊥

-- why a service is refused in the mode that is set, with a block of n bytes
abbrev pub ExplainsService : Service → BiosData → ℕ → CallReason → Type 0
ExplainsService s d n reason =
    ExplainsBesidesBlock s d reason ⊎ IsWrongBlock (service_block_len s) n reason

-- why a load of glyphs is refused in a mode, whatever its block: the mode is graphics, or a glyph
-- is past that of character FF
abbrev pub ExplainsLoadBesidesBlock : GlyphLoad → ℕ → CallReason → Type 0
ExplainsLoadBesidesBlock load m (NoCharacterMap mode) = (mode ≡ m) × (is_text mode ≡ false)
ExplainsLoadBesidesBlock load m (GlyphsPast count first) =
    (first ≡ load.first) × (count ≡ load.count) × (256 < first + count)
ExplainsLoadBesidesBlock load m other = ⊥

-- a mode has no characters of a load's height
abbrev pub IsNoHeight : GlyphLoad → ℕ → CallReason → Type 0
IsNoHeight load m (NoHeight height mode) =
    (height ≡ load.height) × (mode ≡ m) × (mode_row_at_height mode height ≡ None)
IsNoHeight load m other = ⊥

-- why a load of glyphs is refused in a mode, with a block of n bytes, unless for its height
abbrev pub ExplainsLoadBesidesHeight : GlyphLoad → ℕ → ℕ → CallReason → Type 0
ExplainsLoadBesidesHeight load m n reason =
    ExplainsLoadBesidesBlock load m reason ⊎ IsWrongBlock (glyphs_block_len load) n reason

-- no mode is set, and the function needs one
abbrev pub IsNoModeSet : Regs → CallReason → Type 0
IsNoModeSet r (NoModeSet function) = function ≡ high r.ax
IsNoModeSet r other = ⊥

-- there is no such function or subfunction
abbrev pub IsNoService : Regs → CallReason → Type 0
IsNoService r (NoService function al bl) =
    (function ≡ high r.ax) × (al ≡ low r.ax) × (bl ≡ low r.bx)
IsNoService r other = ⊥

-- there is no such mode
abbrev pub IsNoSuchMode : ℕ → CallReason → Type 0
IsNoSuchMode m (NoSuchMode mode) = (mode ≡ m) × (mode_row mode ≡ None)
IsNoSuchMode m other = ⊥

-- why a call is refused in the mode that is set, with a block of n bytes
abbrev pub ExplainsInMode : Option Call → BiosData → Regs → ℕ → CallReason → Type 0
ExplainsInMode None d r n reason = IsNoService r reason
ExplainsInMode (Some (SetMode mode keeps)) d r n reason = IsNoSuchMode mode reason
ExplainsInMode (Some (ReadTable service)) d r n reason = ExplainsTable service reason
ExplainsInMode (Some (LoadGlyphs load)) d r n reason =
    ExplainsLoadBesidesHeight load d.mode n reason ⊎ IsNoHeight load d.mode reason
ExplainsInMode (Some (InMode service)) d r n reason =
    ExplainsService (service_with_page_or_0_if_only_one d service) d n reason

-- Why the call that the registers ask for is refused, with a block of n bytes: the mode to be set
-- does not exist; no mode is set; or a reason of the mode that is set.
abbrev pub ExplainsCall : Option Call → BiosData → Regs → ℕ → CallReason → Type 0
ExplainsCall (Some (SetMode mode keeps)) d r n reason = IsNoSuchMode mode reason
ExplainsCall call d r n reason = ((d.mode ≡ 0) × IsNoModeSet r reason)
    ⊎ (¬ (d.mode ≡ 0) × ExplainsInMode call d r n reason)

-- a refusal, unless there is a row
abbrev pub unless_row : Refusal → Option ModeRow → Option Refusal
unless_row why None = Some why
unless_row why (Some row) = None

-- why a call that needs a mode is refused: no mode is set, or another refusal
abbrev pub no_mode_or : BiosData → Option Refusal → Option Refusal
no_mode_or d other = if d.mode == 0 then Some NoMode else other

-- the refusal of a call with a block of n bytes, if it is refused
abbrev pub call_refusal : Option Call → BiosData → ℕ → Option Refusal
call_refusal None d n = Some (refusal_of_unknown_call d)
call_refusal (Some (SetMode mode keeps)) d n = unless_row BadMode (mode_row mode)
call_refusal (Some (ReadTable service)) d n = no_mode_or d (table_refusal service)
call_refusal (Some (LoadGlyphs load)) d n =
    no_mode_or d (load_refusal load d.mode n
    or unless_row BadHeight (mode_row_at_height d.mode load.height))
call_refusal (Some (InMode service)) d n =
    no_mode_or d (refusal_in_mode (service_with_page_or_0_if_only_one d service) d n)

-- the refusal in a call's answer, if it is one
abbrev pub refusal_in_answer : Result Reply Refusal → Option Refusal
refusal_in_answer (Ok reply) = None
refusal_in_answer (Err refusal) = Some refusal

-- on this bus every call answers its refusal, or, if it has none, registers and a table
abbrev pub CallsEndByTheirRefusals : {S : Type 0} → BusMeaning S → Type 0
CallsEndByTheirRefusals {S} m = (fonts : FontSet) (d : BiosData) (r : Regs) (block : List ℕ) (s : S)
    → refusal_in_answer (run m (service fonts d r block) s).1.0
    ≡ call_refusal (call_of r) d (length block)
