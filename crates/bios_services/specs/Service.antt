-- A whole service: its cycles, the registers that it answers, and the BIOS data afterwards.
-- From the IBM PS/2 and PC BIOS Interface Technical Reference, "Interrupt 10H - Video".
use Rattle.std.specs.Prelude.{ℕ, ◌≡◌, ◌+◌, ◌*◌, ◌==◌, ◌&&◌, nat_lt, if◌then◌else◌, Bool, false}
use Rattle.std.specs.Prelude.{Option, Some, None, List, length, Result, Ok, Err}
use Rattle.vga_bits.specs.declared.refusal.Refusal.{Refusal}
use Rattle.vga_card.specs.Bus.{BusMeaning}
use Rattle.bios_modes.specs.declared.modes.ModeRow.{ModeRow}
use Rattle.bios_modes.specs.Modes.{mode_row}
use Rattle.bios_modes.specs.Palette.{is_monochrome_mode}
use Rattle.bios_modes.specs.Heights.{mode_row_at_height}
use Rattle.bios_modes.specs.Bda.{BiosData}
use Rattle.bios_modes.specs.Begin.{data_of_mode}
use Rattle.bios_modes.specs.Fonts.{FontSet}
use Rattle.vga_bits.specs.declared.refusal.Refusal.TheVariants.{NoMode, BadMode, BadHeight}
use Rattle.bios_services.specs.declared.regs.Regs.{Regs}
use Rattle.bios_services.specs.declared.reply.Reply.{Reply}
use Rattle.bios_services.specs.declared.reply.Table.{Table}
use Rattle.bios_services.specs.declared.reply.Table.TheVariants.{Empty}
use Rattle.bios_services.specs.declared.reply.ServiceError.{ServiceError}
use Rattle.bios_services.specs.declared.reply.ServiceError.TheVariants.{Refused, OutOfMemory}
use Rattle.bios_services.specs.declared.tables.TableService.{TableService}
use Rattle.bios_services.specs.declared.glyph_load.GlyphLoad.{GlyphLoad}
use Rattle.bios_services.specs.declared.call.Call.{Call}
use Rattle.bios_services.specs.declared.call.Call.TheVariants.{SetMode, ReadTable, LoadGlyphs}
use Rattle.bios_services.specs.declared.call.Call.TheVariants.{InMode}
use Rattle.bios_services.specs.declared.call.Service.{Service}
use Rattle.bios_services.specs.declared.call.Service.TheVariants.{SetCursorType, SetCursor}
use Rattle.bios_services.specs.declared.call.Service.TheVariants.{ReadCursor, SelectPage, ScrollUp}
use Rattle.bios_services.specs.declared.call.Service.TheVariants.{ScrollDown, ReadCell, WriteCells}
use Rattle.bios_services.specs.declared.call.Service.TheVariants.{WritePixel, ReadPixel, Teletype}
use Rattle.bios_services.specs.declared.call.Service.TheVariants.{ReadMode, Colours, ReadAdapter}
use Rattle.bios_services.specs.declared.call.Service.TheVariants.{WriteString, ReadDisplay}
use Rattle.bios_services.specs.Plan.{Plan, Done, ◌>>=◌, ◌>>◌, run}
use Rattle.bios_modes.specs.Kinds.{is_text}
use Rattle.bios_services.specs.ModeSet.{mode_set_plan}
use Rattle.bios_services.specs.Cursor.{cursor_position_of, cursor_cell_number, move_cursor_plan}
use Rattle.bios_services.specs.Cursor.{cursor_type_plan}
use Rattle.bios_services.specs.Cursor.{show_page_plan}
use Rattle.bios_services.specs.Cells.{cell_address, read_cell_plan}
use Rattle.bios_services.specs.Drawing.{cell_band, cell_row}
use Rattle.bios_services.specs.CellRuns.{cell_run_plan}
use Rattle.bios_services.specs.CharacterReading.{read_character_plan}
use Rattle.bios_services.specs.declared.direction.Direction.TheVariants.{Up, Down}
use Rattle.bios_services.specs.Scroll.{scroll_plan}
use Rattle.bios_services.specs.Teletype.{teletype_plan}
use Rattle.bios_services.specs.Pixels.{write_pixel_plan, read_pixel_plan}
use Rattle.bios_services.specs.Colours.{colours_plan}
use Rattle.bios_services.specs.Tables.{table_refusal, table_plan, table_allocates_memory}
use Rattle.bios_services.specs.Strings.{string_plan}
use Rattle.bios_services.specs.GlyphLoads.{load_refusal, load_plan}
use Rattle.bios_services.specs.Registers.{low, with_low}
use Rattle.bios_services.specs.Calls.{call_of}
use Rattle.bios_services.specs.Refusals.{service_with_page_or_0_if_only_one, refusal_in_mode, refusal_of_unknown_call}

-- the registers that a service answers, and the BIOS data after it
abbrev pub ServiceOutcome : Type 0
ServiceOutcome = Regs × BiosData

-- 08: the cell at the cursor of a page is read; in text the character goes to AL and the attribute
-- to AH, in graphics the character goes to AL
unfoldable pub read_cell_service : FontSet → ℕ → BiosData → Regs → Plan Regs
read_cell_service fonts page d r =
    let q = cursor_cell_number d page in
    if is_text d.mode then (do
      ax ← read_cell_plan (cell_address d page q)
      Done (record r { ax = ax }))
    else (do
      character ← read_character_plan (cell_band d page q) (cell_row d q) fonts
      Done (record r { ax = with_low r.ax character }))

-- 0D: the colour of a pixel is read into AL
unfoldable pub read_pixel_service : ℕ → ℕ → ℕ → BiosData → Regs → Plan Regs
read_pixel_service page x y d r = do
  colour ← read_pixel_plan d page x y
  Done (record r { ax = with_low r.ax colour })

-- 03: the cursor's type goes to CX, and its position on a page to DX
abbrev pub read_cursor_of : BiosData → ℕ → Regs → Regs
read_cursor_of d page r = record r { cx = d.cursor_type; dx = cursor_position_of d page }

-- 0F: the mode goes to AL, the number of columns to AH, and the active page to BH
abbrev pub read_mode_of : BiosData → Regs → Regs
read_mode_of d r = record r { ax = d.mode + 256 * d.columns; bx = low r.bx + 256 * d.page }

-- 12: BH is 1 if the mode is monochrome and else 0, BL is 3 for 256 KiB of memory, and CX contains
-- the adapter's switches
abbrev pub read_adapter_of : BiosData → Regs → Regs
read_adapter_of d r = record r {
  bx = (if is_monochrome_mode d.mode then 0x0103 else 0x0003);
  cx = 0x0009;
}

-- 1A: AL says that the function is there, and BL that the display is a VGA with a colour monitor
abbrev pub read_display_of : Regs → Regs
read_display_of r = record r { ax = 0x1A1A; bx = 0x0008 }

-- what a service that is not refused does and answers
unfoldable pub plan_of_service : Service → FontSet → BiosData → Regs → List ℕ → Plan ServiceOutcome
plan_of_service (SetCursorType cursor_type) fonts d r block = cursor_type_plan d cursor_type
    >>= λ after. Done (r, after)
plan_of_service (SetCursor page position) fonts d r block = move_cursor_plan d page position
    >>= λ after. Done (r, after)
plan_of_service (ReadCursor page) fonts d r block = Done (read_cursor_of d page r, d)
plan_of_service (SelectPage page) fonts d r block =
    show_page_plan d page >>= λ after. Done (r, after)
plan_of_service (ScrollUp scroll) fonts d r block = scroll_plan d scroll Up >> Done (r, d)
plan_of_service (ScrollDown scroll) fonts d r block = scroll_plan d scroll Down >> Done (r, d)
plan_of_service (ReadCell page) fonts d r block = read_cell_service fonts page d r
    >>= λ after. Done (after, d)
plan_of_service (WriteCells cells) fonts d r block = cell_run_plan fonts d cells >> Done (r, d)
plan_of_service (WritePixel page x y colour) fonts d r block =
    write_pixel_plan d page x y colour >> Done (r, d)
plan_of_service (ReadPixel page x y) fonts d r block = read_pixel_service page x y d r
    >>= λ after. Done (after, d)
plan_of_service (Teletype character colour) fonts d r block = teletype_plan fonts d character colour
    >>= λ after. Done (r, after)
plan_of_service ReadMode fonts d r block = Done (read_mode_of d r, d)
plan_of_service (Colours service) fonts d r block = colours_plan service d.crtc_address r block
    >>= λ after. Done (after, d)
plan_of_service ReadAdapter fonts d r block = Done (read_adapter_of d r, d)
plan_of_service (WriteString s) fonts d r block = string_plan fonts d s block
    >>= λ after. Done (r, after)
plan_of_service ReadDisplay fonts d r block = Done (read_display_of r, d)

-- what a call answers, and the BIOS data after it
abbrev pub CallOutcome : Type 0
CallOutcome = Result Reply Refusal × BiosData

-- a refused call has no cycle and leaves the BIOS data
abbrev pub refusal_plan : Refusal → BiosData → Plan CallOutcome
refusal_plan why d = Done (Err why, d)

-- an answer of registers and a table
abbrev pub answer_with : Table → Regs → BiosData → CallOutcome
answer_with table r d = (Ok (record { regs = r; table = table }), d)

-- an answer of registers alone
abbrev pub answer_of_registers : Regs → BiosData → CallOutcome
answer_of_registers r d = answer_with Empty r d

-- 00: a mode is set, if there is a row of its number
unfoldable pub set_mode_plan : Option ModeRow → ℕ → Bool → FontSet → BiosData → Regs
    → Plan CallOutcome
set_mode_plan None mode keeps fonts d r = refusal_plan BadMode d
set_mode_plan (Some row) mode keeps fonts d r = do
  mode_set_plan row keeps fonts
  Done (answer_of_registers r (data_of_mode mode row))

-- a service is refused for a reason, or else done
unfoldable pub unless_refused_plan : Option Refusal → Service → FontSet → BiosData → Regs → List ℕ →
    Plan CallOutcome
unless_refused_plan (Some why) service fonts d r block = refusal_plan why d
unless_refused_plan None service fonts d r block = do
  outcome ← plan_of_service service fonts d r block
  Done (answer_of_registers outcome.0 outcome.1)

-- a service that needs a mode, with the page that its number means
unfoldable pub service_in_mode_plan : Service → FontSet → BiosData → Regs → List ℕ → Plan CallOutcome
service_in_mode_plan service fonts d r block = if d.mode == 0 then refusal_plan NoMode d
    else (let there = service_with_page_or_0_if_only_one d service in
    unless_refused_plan (refusal_in_mode there d (length block)) there fonts d r block)

-- a table is refused for a reason, or else answered
unfoldable pub table_unless_refused_plan : Option Refusal → TableService → BiosData → Regs
    → Plan CallOutcome
table_unless_refused_plan (Some why) service d r = refusal_plan why d
table_unless_refused_plan None service d r = do
  table ← table_plan service d.crtc_address
  Done (answer_with table r d)

-- a subfunction that answers a table, which needs a mode
unfoldable pub table_in_mode_plan : TableService → BiosData → Regs → Plan CallOutcome
table_in_mode_plan service d r = if d.mode == 0 then refusal_plan NoMode d
    else table_unless_refused_plan (table_refusal service) service d r

-- glyphs are loaded, if the mode has a row of their height
unfoldable pub load_if_height_exists : Option ModeRow → GlyphLoad → FontSet → BiosData → Regs
    → List ℕ →
    Plan CallOutcome
load_if_height_exists None load fonts d r block = refusal_plan BadHeight d
load_if_height_exists (Some row) load fonts d r block = do
  load_plan fonts load block row
  Done (answer_of_registers r (data_of_mode d.mode row))

-- glyphs are refused for a reason, or else loaded
unfoldable pub load_unless_refused_plan : Option Refusal → GlyphLoad → FontSet → BiosData → Regs
    → List ℕ →
    Plan CallOutcome
load_unless_refused_plan (Some why) load fonts d r block = refusal_plan why d
load_unless_refused_plan None load fonts d r block =
    load_if_height_exists (mode_row_at_height d.mode load.height) load fonts d r block

-- 11: a load of glyphs, which needs a mode
unfoldable pub load_in_mode_plan : GlyphLoad → FontSet → BiosData → Regs → List ℕ → Plan CallOutcome
load_in_mode_plan load fonts d r block = if d.mode == 0 then refusal_plan NoMode d
    else load_unless_refused_plan (load_refusal load d.mode (length block)) load fonts d r block

-- the plan of a call; one that asks for no service is refused
abbrev pub call_plan : Option Call → FontSet → BiosData → Regs → List ℕ → Plan CallOutcome
call_plan None fonts d r block = refusal_plan (refusal_of_unknown_call d) d
call_plan (Some (SetMode mode keeps)) fonts d r block =
    set_mode_plan (mode_row mode) mode keeps fonts d r
call_plan (Some (ReadTable service)) fonts d r block = table_in_mode_plan service d r
call_plan (Some (LoadGlyphs load)) fonts d r block = load_in_mode_plan load fonts d r block
call_plan (Some (InMode service)) fonts d r block = service_in_mode_plan service fonts d r block

-- the plan of the call that the registers ask for
abbrev pub service : FontSet → BiosData → Regs → List ℕ → Plan CallOutcome
service fonts d r block = call_plan (call_of r) fonts d r block

-- whether a call allocates memory, before its first cycle: a call for a table that does, if a mode
-- is set
abbrev pub allocates_memory : Option Call → BiosData → Bool
allocates_memory (Some (ReadTable service)) d = nat_lt 0 d.mode && table_allocates_memory service
allocates_memory _ d = false

-- what a call with this plan may answer and leave, from bus s and BIOS data d to bus t and data
-- `after`: what the plan does; or memory was refused, and nothing has changed
abbrev pub MayAnswer : {S : Type 0} → BusMeaning S → Plan CallOutcome → S → BiosData →
    Result Reply ServiceError → S → BiosData → Type 0
MayAnswer m plan s d (Ok reply) t after = (t, (Ok reply, after)) ≡ run m plan s
MayAnswer m plan s d (Err (Refused why)) t after = (t, (Err why, after)) ≡ run m plan s
MayAnswer m plan s d (Err OutOfMemory) t after = (t ≡ s) × (after ≡ d)

-- on this bus a refused call leaves the bus and the BIOS data
abbrev pub RefusedCallsDoNothing : {S : Type 0} → BusMeaning S → Type 0
RefusedCallsDoNothing {S} m = (fonts : FontSet) (d : BiosData) (r : Regs) (block : List ℕ) (s : S)
    (e : Refusal)
    → (run m (service fonts d r block) s).1.0 ≡ Err e →
    run m (service fonts d r block) s ≡ (s, (Err e, d))
