-- The laws of the services.
use Rattle.std.proofs.Common.{ℕ, ◌<◌, subst, List}
use Rattle.bios_screen.proofs.Prelude.{IsCard, CardState, BiosData, FontSet, Regs, ServiceActsAsOnScreen, AreBytes}
use Rattle.bios_modes.specs.Bounds.{IsBda}
use Rattle.bios_services.specs.declared.scroll.Scroll.{Scroll}
use Rattle.bios_services.specs.declared.cell_run.CellRun.{CellRun}
use Rattle.bios_services.specs.declared.strings.StringCall.{StringCall}
use Rattle.bios_services.specs.declared.colours.ColourService.{ColourService}
use Rattle.bios_services.specs.declared.call.Service.{Service}
use Rattle.bios_services.specs.declared.call.Service.TheVariants.{SetCursorType, SetCursor, ReadCursor, SelectPage, ReadCell, WriteCells, ScrollUp, ScrollDown}
use Rattle.bios_services.specs.declared.call.Service.TheVariants.{WritePixel, ReadPixel, Teletype, ReadMode, Colours, ReadAdapter, WriteString, ReadDisplay}
use Rattle.bios_screen.specs.AfterCall.{OverscanFitsByte, ServiceLeadsToNextScreen, TextServiceLeadsToNext}
use Rattle.bios_screen.proofs.Shows.Screens.{text_shown}
use Rattle.bios_screen.proofs.Shows.Any.{IsAny, any_screen, any_is}
use Rattle.bios_screen.proofs.Services.AnyReaders as any
use Rattle.bios_screen.proofs.Services.Cursors as cursors
use Rattle.bios_screen.proofs.Services.Characters as characters
use Rattle.bios_screen.proofs.Services.Pixels as pixels
use Rattle.bios_screen.proofs.Services.Windows as windows
use Rattle.bios_screen.proofs.Services.Teletypes as teletypes
use Rattle.bios_screen.proofs.Services.Strings as strings
use Rattle.bios_screen.proofs.Services.Palette as coloured

-- a service is served if it is served from what is known of any shown screen
serves_any : (service : Service) → ((fonts : FontSet) (r : Regs) (block : List ℕ) (c : CardState) (d : BiosData) (h : IsAny c d) → AreBytes block → IsCard c →
    IsBda d → ServiceActsAsOnScreen service fonts r block c d (any_screen c d h c)) → ServiceLeadsToNextScreen service
serves_any service f fonts r block c d s bytes z bda e = let x = any_is c d s e in
    subst (ServiceActsAsOnScreen service fonts r block c d) x.screen (f fonts r block c d x.is bytes z bda)

pub read_cursor : (page : ℕ) → ServiceLeadsToNextScreen (ReadCursor page)
read_cursor page = serves_any (ReadCursor page) (λ fonts r block c d h bytes z bda. any.read_cursor page fonts r block c d h)

pub read_mode : ServiceLeadsToNextScreen ReadMode
read_mode = serves_any ReadMode (λ fonts r block c d h bytes z bda. any.read_mode fonts r block c d h)

pub read_adapter : ServiceLeadsToNextScreen ReadAdapter
read_adapter = serves_any ReadAdapter (λ fonts r block c d h bytes z bda. any.read_adapter fonts r block c d h)

pub read_display : ServiceLeadsToNextScreen ReadDisplay
read_display = serves_any ReadDisplay (λ fonts r block c d h bytes z bda. any.read_display fonts r block c d h)

pub write_pixel : (page x y colour : ℕ) → colour < 256 → ServiceLeadsToNextScreen (WritePixel page x y colour)
write_pixel page x y colour l = serves_any (WritePixel page x y colour) (λ fonts r block c d h bytes z bda.
    pixels.write_pixel c d h page x y fonts r block colour l z)

pub read_pixel : (page x y : ℕ) → ServiceLeadsToNextScreen (ReadPixel page x y)
read_pixel page x y = serves_any (ReadPixel page x y) (λ fonts r block c d h bytes z bda. pixels.read_pixel c d h page x y fonts r block z)

-- in text functions 0C and 0D are refused, whatever the arguments are
pub dot_refused : (page x y colour : ℕ) → TextServiceLeadsToNext (WritePixel page x y colour)
dot_refused page x y colour fonts r block c d s bytes z bda e text =
    let any = any_is c d s e in
    subst (ServiceActsAsOnScreen (WritePixel page x y colour) fonts r block c d) any.screen
    (pixels.write_refused c d any.is page x y fonts r block (text_shown c d s e text) colour)

pub read_refused : (page x y : ℕ) → TextServiceLeadsToNext (ReadPixel page x y)
read_refused page x y fonts r block c d s bytes z bda e text =
    let any = any_is c d s e in
    subst (ServiceActsAsOnScreen (ReadPixel page x y) fonts r block c d) any.screen
    (pixels.read_refused c d any.is page x y fonts r block (text_shown c d s e text))

pub set_cursor_type : (type : ℕ) → ServiceLeadsToNextScreen (SetCursorType type)
set_cursor_type type = serves_any (SetCursorType type) (λ fonts r block c d h bytes z bda. cursors.set_cursor_type c d h type fonts r block)

pub set_cursor : (page place : ℕ) → place < 65536 → ServiceLeadsToNextScreen (SetCursor page place)
set_cursor page place l = serves_any (SetCursor page place) (λ fonts r block c d h bytes z bda. cursors.set_cursor c d h page place fonts r block l bda)

pub select_page : (page : ℕ) → ServiceLeadsToNextScreen (SelectPage page)
select_page page = serves_any (SelectPage page) (λ fonts r block c d h bytes z bda. cursors.select_page c d h page fonts r block bda)

pub read_cell : (page : ℕ) → ServiceLeadsToNextScreen (ReadCell page)
read_cell page = serves_any (ReadCell page) (λ fonts r block c d h bytes z bda. characters.read_cell fonts r block c d h z page)

pub write_cells : (cells : CellRun) → cells.character < 256 → cells.colouring.colour < 256 → ServiceLeadsToNextScreen (WriteCells cells)
write_cells cells lv la = serves_any (WriteCells cells) (λ fonts r block c d h bytes z bda. characters.write_cells fonts r block c d h z cells lv la)

pub scroll_up : (asked : Scroll) → asked.fill < 256 → ServiceLeadsToNextScreen (ScrollUp asked)
scroll_up = windows.scroll_up

pub scroll_down : (asked : Scroll) → asked.fill < 256 → ServiceLeadsToNextScreen (ScrollDown asked)
scroll_down = windows.scroll_down

pub teletype : (character colour : ℕ) → character < 256 → colour < 256 → ServiceLeadsToNextScreen (Teletype character colour)
teletype character colour l k = serves_any (Teletype character colour) (λ fonts r block c d h bytes z bda.
    teletypes.teletype character colour l k fonts c d h z bda r block)

pub write_string : (call : StringCall) → call.colour < 256 → ServiceLeadsToNextScreen (WriteString call)
write_string call l = serves_any (WriteString call) (λ fonts r block c d h bytes z bda. strings.write_string call fonts r block c d h bytes l z bda)

pub set_colours : (service : ColourService) → OverscanFitsByte service → ServiceLeadsToNextScreen (Colours service)
set_colours service f = serves_any (Colours service) (λ fonts r block c d h bytes z bda. coloured.set_colours service fonts r block c d h f bytes z)
