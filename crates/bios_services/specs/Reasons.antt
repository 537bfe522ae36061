-- Reasons to refuse a service, over numbers alone: the same reasons apply to BIOS data and to a
-- plain screen.
-- From the IBM PS/2 and PC BIOS Interface Technical Reference, "Interrupt 10H - Video"; the
-- refusals are this adapter's choice.
use Rattle.std.specs.Prelude.{ℕ, Bool, ◌+◌, ◌==◌, ◌&&◌, nat_lt, nat_le, not, if◌then◌else◌, Option}
use Rattle.std.specs.Prelude.{Some, None}
use Rattle.vga_bits.specs.declared.refusal.Refusal.{Refusal}
use Rattle.vga_bits.specs.declared.refusal.Refusal.TheVariants.{WrongKind, BadPage, Outside}
use Rattle.vga_bits.specs.declared.refusal.Refusal.TheVariants.{CountPast, BadBlock}
use Rattle.bios_modes.specs.Kinds.{is_text}
use Rattle.bios_services.specs.Cursor.{row_of_position, column_of_position}

-- the first of two reasons, if it is there, or else the second
infixr 10 ◌or◌
abbrev pub ◌or◌ : Option Refusal → Option Refusal → Option Refusal
None or other = other
(Some why) or other = Some why

-- a reason, unless the test holds
abbrev pub refuse_unless : Bool → Refusal → Option Refusal
refuse_unless holds why = if holds then None else Some why

-- the mode is text, which has no pixels
abbrev pub refuse_unless_graphics_mode : ℕ → Option Refusal
refuse_unless_graphics_mode mode = refuse_unless (not (is_text mode)) WrongKind

-- the mode has no page of this number
abbrev pub no_page : ℕ → ℕ → Option Refusal
no_page pages page = refuse_unless (nat_lt page pages) BadPage

-- the page has no cell of this number
abbrev pub outside_cells : ℕ → ℕ → Option Refusal
outside_cells cells first = refuse_unless (nat_lt first cells) Outside

-- the page has no cell at this position
abbrev pub outside_page : ℕ → ℕ → ℕ → Option Refusal
outside_page rows columns position = refuse_unless (nat_lt (row_of_position position) rows
    && nat_lt (column_of_position position) columns) Outside

-- the page has no pixel at column x and line y
abbrev pub outside_pixels : ℕ → ℕ → ℕ → ℕ → Option Refusal
outside_pixels width height x y = refuse_unless (nat_lt x width && nat_lt y height) Outside

-- count cells from cell `first` on go past the end of the page
abbrev pub past_cells : ℕ → ℕ → ℕ → Option Refusal
past_cells cells first count = refuse_unless (nat_le (first + count) cells) CountPast

-- the block has another length than the one that is read
abbrev pub wrong_block : ℕ → ℕ → Option Refusal
wrong_block size len = refuse_unless (len == size) BadBlock

-- a reason, or else that the block is wrong; a call that reads none may be given a block of any
-- length
abbrev pub refuse_or_wrong_block : Option Refusal → Option ℕ → ℕ → Option Refusal
refuse_or_wrong_block why None len = why
refuse_or_wrong_block why (Some size) len = why or wrong_block size len
