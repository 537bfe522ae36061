-- A block of the length that a call reads is never a reason to refuse it, and one of any other length always is.
use Rattle.std.proofs.Common.{◌≡◌, ◌∙◌, ◌==◌, ◌<◌, ◌+◌, ℕ, Bool, true, false, if◌then◌else◌, Option, Some, None, length, Result, Err, refl, sym, ap}
use Rattle.std.proofs.Common.{subst, arith, nat_lt, nat_le, not, ◌&&◌, unwrap_or}
use Rattle.std.proofs.lemmas.Bool.Decides.{nat_tests}
use Rattle.vga_bits.specs.declared.refusal.Refusal.{Refusal}
use Rattle.vga_bits.specs.declared.refusal.Refusal.TheVariants.{NoMode, BadFunction, BadMode, WrongKind, BadPage, Outside, CountPast, BadRegister, BadBlock, BadHeight}
use Rattle.vga_card.specs.Bus.{BusMeaning}
use Rattle.bios_modes.specs.declared.modes.ModeRow.{ModeRow}
use Rattle.bios_modes.specs.Modes.{mode_row}
use Rattle.bios_modes.specs.Heights.{mode_row_at_height}
use Rattle.bios_modes.specs.Kinds.{is_text}
use Rattle.bios_modes.specs.Bda.{BiosData}
use Rattle.bios_services.specs.declared.reply.Reply.{Reply}
use Rattle.bios_services.specs.declared.tables.TableService.{TableService}
use Rattle.bios_services.specs.declared.tables.TableService.TheVariants.{ReadPalette, ReadEntries}
use Rattle.bios_services.specs.declared.colours.ColourService.{ColourService}
use Rattle.bios_services.specs.declared.colours.ColourService.TheVariants.{SetRegister, SetOverscan, SetPalette, SetBlinking, ReadRegister, ReadOverscan}
use Rattle.bios_services.specs.declared.colours.ColourService.TheVariants.{SetEntry, SetEntries, ReadEntry, SetMask, ReadMask}
use Rattle.bios_services.specs.declared.glyph_load.GlyphLoad.{GlyphLoad}
use Rattle.bios_services.specs.declared.call.Call.{Call}
use Rattle.bios_services.specs.declared.call.Call.TheVariants.{SetMode, ReadTable, LoadGlyphs, InMode}
use Rattle.bios_services.specs.declared.call.Service.{Service}
use Rattle.bios_services.specs.declared.call.Service.TheVariants.{SetCursorType, SetCursor, ReadCursor, SelectPage, ScrollUp, ScrollDown, ReadCell, WriteCells}
use Rattle.bios_services.specs.declared.call.Service.TheVariants.{WritePixel, ReadPixel, Teletype, ReadMode, Colours, ReadAdapter, WriteString, ReadDisplay}
use Rattle.bios_services.specs.Bounds.{page_count}
use Rattle.bios_services.specs.Cells.{cells_per_page}
use Rattle.bios_services.specs.Cursor.{cursor_cell_number, cursor_position_of, row_of_position, column_of_position}
use Rattle.bios_services.specs.Pixels.{pixels_across, pixels_down}
use Rattle.bios_services.specs.Plan.{run}
use Rattle.bios_services.specs.Reasons.{◌or◌, refuse_unless, wrong_block, refuse_or_wrong_block, no_page, refuse_unless_graphics_mode, outside_cells, outside_page, outside_pixels}
use Rattle.bios_services.specs.Colours.{colour_refusal_besides_block, has_dac_entries}
use Rattle.bios_services.specs.Calls.{call_of}
use Rattle.bios_services.specs.GlyphLoads.{load_refusal_besides_block, load_refusal, glyphs_block_len}
use Rattle.bios_services.specs.Refusals.{service_with_page_or_0_if_only_one, refusal_in_mode_besides_block, refusal_in_mode, service_block_len}
use Rattle.bios_services.specs.Tables.{table_refusal}
use Rattle.bios_services.specs.Blocks.{FittingBlocksAreAccepted, OtherBlockLengthsAreRefused, block_len}
use Rattle.bios_services.specs.Service.{CallOutcome, service}
use Rattle.bios_services.proofs.ReasonLemmas.{neither, holds}
use Rattle.bios_services.specs.CallReasons.{unless_row, no_mode_or, call_refusal}
use Rattle.bios_services.proofs.RefusedLemmas.{Ends, call_ends}

-- ---- only a wrong block is refused as one

-- a reason, if there is one, is not the block
abbrev IsOther : Option Refusal → Type 0
IsOther why = why ≡ Some BadBlock → ⊥

other_unless : (b : Bool) (why : Refusal) → (why ≡ BadBlock → ⊥) → IsOther (refuse_unless b why)
other_unless true why h e = cc
other_unless false why h e = h (some_same why BadBlock e)
  where
    some_same : (x y : Refusal) → Some x ≡ Some y → x ≡ y
    some_same x y e = cc

other_or : (x y : Option Refusal) → IsOther x → IsOther y → IsOther (x or y)
other_or None y hx hy = hy
other_or (Some why) y hx hy = hx

other_set : (d : BiosData) (why : Option Refusal) → IsOther why → IsOther (no_mode_or d why)
other_set d why h = by_test (d.mode == 0)
  where
    by_test : (unset : Bool) → IsOther (if unset then Some NoMode else why)
    by_test true = λ e. cc
    by_test false = h

other_row : (why : Refusal) (row : Option ModeRow) → (why ≡ BadBlock → ⊥) → IsOther (unless_row why row)
other_row why None h = other_unless false why h
other_row why (Some row) h = λ e. cc

page_other : (d : BiosData) (page : ℕ) → IsOther (no_page (page_count d) page)
page_other d page = other_unless (nat_lt page (page_count d)) BadPage (λ e. cc)

position_other : (d : BiosData) (position : ℕ) → IsOther (outside_page (d.last_row + 1) d.columns position)
position_other d position = other_unless (nat_lt (row_of_position position) (d.last_row + 1) && nat_lt (column_of_position position) d.columns) Outside (λ e. cc)

cell_other : (d : BiosData) (page : ℕ) → IsOther (outside_cells (cells_per_page d) (cursor_cell_number d page))
cell_other d page = other_unless (nat_lt (cursor_cell_number d page) (cells_per_page d)) Outside (λ e. cc)

dot_other : (d : BiosData) (page x y : ℕ) → IsOther (refuse_unless_graphics_mode d.mode or no_page (page_count d) page or outside_pixels (pixels_across d) (pixels_down d) x y)
dot_other d page x y =
    other_or (refuse_unless_graphics_mode d.mode) _ (other_unless (not (is_text d.mode)) WrongKind (λ e. cc))
    (other_or (no_page (page_count d) page) _ (page_other d page)
    (other_unless (nat_lt x (pixels_across d) && nat_lt y (pixels_down d)) Outside (λ e. cc)))

register_other : (holds : Bool) → IsOther (refuse_unless holds BadRegister)
register_other holds = other_unless holds BadRegister (λ e. cc)

colour_other : (asked : ColourService) → IsOther (colour_refusal_besides_block asked)
colour_other (SetRegister register value) = register_other (nat_lt register 0x10)
colour_other (SetOverscan value) = λ e. cc
colour_other SetPalette = λ e. cc
colour_other (SetBlinking blinking) = register_other (nat_le blinking 1)
colour_other (ReadRegister register) = register_other (nat_lt register 0x10)
colour_other ReadOverscan = λ e. cc
colour_other (SetEntry entry red green blue) = register_other (nat_lt entry 0x100)
colour_other (SetEntries first count) = register_other (has_dac_entries first count)
colour_other (ReadEntry entry) = register_other (nat_lt entry 0x100)
colour_other (SetMask mask) = λ e. cc
colour_other ReadMask = λ e. cc

service_other : (asked : Service) (d : BiosData) → IsOther (refusal_in_mode_besides_block asked d)
service_other (SetCursorType cursor_type) d = λ e. cc
service_other (SetCursor page position) d = page_other d page
service_other (ReadCursor page) d = page_other d page
service_other (SelectPage page) d = page_other d page
service_other (ScrollUp scroll) d = λ e. cc
service_other (ScrollDown scroll) d = λ e. cc
service_other (ReadCell page) d = other_or (no_page (page_count d) page) _ (page_other d page) (cell_other d page)
service_other (WriteCells cells) d =
    other_or (no_page (page_count d) cells.page) _ (page_other d cells.page)
    (other_or (outside_cells (cells_per_page d) (cursor_cell_number d cells.page)) _ (cell_other d cells.page)
    (other_unless (nat_le (cursor_cell_number d cells.page + cells.count) (cells_per_page d)) CountPast (λ e. cc)))
service_other (WritePixel page x y colour) d = dot_other d page x y
service_other (ReadPixel page x y) d = dot_other d page x y
service_other (Teletype character colour) d = position_other d (cursor_position_of d d.page)
service_other ReadMode d = λ e. cc
service_other (Colours asked) d = colour_other asked
service_other ReadAdapter d = λ e. cc
service_other (WriteString string) d = other_or (no_page (page_count d) string.page) _ (page_other d string.page) (position_other d string.position)
service_other ReadDisplay d = λ e. cc

table_other : (asked : TableService) → IsOther (table_refusal asked)
table_other ReadPalette = λ e. cc
table_other (ReadEntries first count) = register_other (has_dac_entries first count)

load_other : (load : GlyphLoad) (mode : ℕ) → IsOther (load_refusal_besides_block load mode)
load_other load mode =
    other_or (refuse_unless (is_text mode) WrongKind) _ (other_unless (is_text mode) WrongKind (λ e. cc))
    (other_unless (nat_le (load.first + load.count) 256) CountPast (λ e. cc))

-- ---- a block is wrong if it has another length than is read

-- a block of the length that is read is no reason
block_other : (why : Option Refusal) (size : Option ℕ) (len : ℕ) → IsOther why → len ≡ unwrap_or size 0 → IsOther (refuse_or_wrong_block why size len)
block_other why None len h is = h
block_other why (Some size) len h is =
    let same : (len == size) ≡ true = grind (arith, nat_tests) in
    other_or why (wrong_block size len) h (none_other (wrong_block size len) (ap (λ b. refuse_unless b BadBlock) same))
  where
    none_other : (x : Option Refusal) → x ≡ None → IsOther x
    none_other x is e = let both = sym is ∙ e in cc

-- if a call reads some bytes and the block is no reason, it has that length
block_whole : (why : Option Refusal) (size : Option ℕ) (len : ℕ) → 0 < unwrap_or size 0 → refuse_or_wrong_block why size len ≡ None → len ≡ unwrap_or size 0
block_whole why None len some none = absurd (omega (arith, some))
block_whole why (Some size) len some none =
    let same : (len == size) ≡ true = holds (len == size) BadBlock (neither why (wrong_block size len) none).1 in
    grind (arith, nat_tests)

-- ---- calls

-- the page does not change the block
same_block : (d : BiosData) (asked : Service) → service_block_len (service_with_page_or_0_if_only_one d asked) ≡ service_block_len asked
same_block d (SetCursorType cursor_type) = refl
same_block d (SetCursor page position) = refl
same_block d (ReadCursor page) = refl
same_block d (SelectPage page) = refl
same_block d (ScrollUp scroll) = refl
same_block d (ScrollDown scroll) = refl
same_block d (ReadCell page) = refl
same_block d (WriteCells cells) = refl
same_block d (WritePixel page x y colour) = refl
same_block d (ReadPixel page x y) = refl
same_block d (Teletype character colour) = refl
same_block d ReadMode = refl
same_block d (Colours asked) = refl
same_block d ReadAdapter = refl
same_block d (WriteString string) = refl
same_block d ReadDisplay = refl

unknown_other : (unset : Bool) → (if unset then NoMode else BadFunction) ≡ BadBlock → ⊥
unknown_other true e = cc
unknown_other false e = cc

call_other : (call : Option Call) (d : BiosData) (len : ℕ) → len ≡ block_len call → IsOther (call_refusal call d len)
unfolding refusal_in_mode
call_other None d len is = other_unless false _ (unknown_other (d.mode == 0))
call_other (Some (SetMode mode keeps)) d len is = other_row BadMode (mode_row mode) (λ e. cc)
call_other (Some (ReadTable asked)) d len is = other_set d (table_refusal asked) (table_other asked)
call_other (Some (LoadGlyphs load)) d len is =
    other_set d _ (other_or (load_refusal load d.mode len) _ (block_other (load_refusal_besides_block load d.mode) (glyphs_block_len load) len (load_other load d.mode) is)
    (other_row BadHeight (mode_row_at_height d.mode load.height) (λ e. cc)))
call_other (Some (InMode asked)) d len is =
    let there = service_with_page_or_0_if_only_one d asked in
    let fits : len ≡ unwrap_or (service_block_len there) 0 = is ∙ ap (λ size. unwrap_or size 0) (sym (same_block d asked)) in
    other_set d _ (block_other (refusal_in_mode_besides_block there d) (service_block_len there) len (service_other there d) fits)

allowed_set : (d : BiosData) (why : Option Refusal) → no_mode_or d why ≡ None → why ≡ None
allowed_set d why e = by_test (d.mode == 0) e
  where
    by_test : (unset : Bool) → (if unset then Some NoMode else why) ≡ None → why ≡ None
    by_test true e = absurd (cc)
    by_test false e = e

call_whole : (call : Option Call) (d : BiosData) (len : ℕ) → 0 < block_len call → call_refusal call d len ≡ None → len ≡ block_len call
unfolding refusal_in_mode
call_whole None d len some none = absurd (omega (arith, some))
call_whole (Some (SetMode mode keeps)) d len some none = absurd (omega (arith, some))
call_whole (Some (ReadTable asked)) d len some none = absurd (omega (arith, some))
call_whole (Some (LoadGlyphs load)) d len some none =
    block_whole (load_refusal_besides_block load d.mode) (glyphs_block_len load) len some (neither (load_refusal load d.mode len) _ (allowed_set d _ none)).0
call_whole (Some (InMode asked)) d len some none =
    let there = service_with_page_or_0_if_only_one d asked in
    let same = ap (λ size. unwrap_or size 0) (same_block d asked) in
    block_whole (refusal_in_mode_besides_block there d) (service_block_len there) len (subst (λ n. 0 < n) (sym same) some) (allowed_set d _ none) ∙ same

pub calls_accept_only_blocks_that_fit : {S : Type 0} (m : BusMeaning S) → FittingBlocksAreAccepted m
calls_accept_only_blocks_that_fit {S} m fonts d r block s is e =
    by_reason (call_refusal (call_of r) d (length block)) (call_other (call_of r) d (length block) is) (call_ends m (call_of r) fonts d r block s)
  where
    same : (why : Refusal) → (let x : Result Reply Refusal = Err why in x) ≡ Err BadBlock → Some why ≡ Some BadBlock
    same why e = cc

    by_reason : (why : Option Refusal) → IsOther why → Ends why s d (run m (service fonts d r block) s) → ⊥
    by_reason (Some why) other ends = other (same why (sym (ap (λ (x : S × CallOutcome). x.1.0) ends) ∙ e))
    by_reason None other ends = let both = sym ends.1 ∙ e in cc

pub others_are_refused : {S : Type 0} (m : BusMeaning S) → OtherBlockLengthsAreRefused m
others_are_refused {S} m fonts d r block s reply some other e =
    by_reason (call_refusal (call_of r) d (length block)) refl (call_ends m (call_of r) fonts d r block s)
  where
    by_reason : (why : Option Refusal) → call_refusal (call_of r) d (length block) ≡ why → Ends why s d (run m (service fonts d r block) s) → ⊥
    by_reason (Some why) is ends = let both = sym (ap (λ (x : S × CallOutcome). x.1.0) ends) ∙ e in cc
    by_reason None is ends = other (call_whole (call_of r) d (length block) some is)
