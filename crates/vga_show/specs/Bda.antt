-- The video BIOS's data as text.
use Rattle.std.specs.Prelude.{ℕ, List, [], ◌∷◌, ◌++◌, slice_index, codes}
use Rattle.bios_modes.specs.Bda.{BiosData}
use Rattle.vga_bits.specs.Hex.{two_hex_digits, four_hex_digits}
use Rattle.vga_show.specs.Lines.{dump_line, four_hex_digits_each}

-- the mode, its columns, the size of a page, and the start of the active page
unfoldable pub mode_columns_size_and_start_words : BiosData → List (List ℕ)
mode_columns_size_and_start_words bda =
    codes "mode" ∷ two_hex_digits bda.mode ∷ codes "cols" ∷ four_hex_digits bda.columns
    ∷ codes "size"
    ∷ four_hex_digits bda.size
    ∷ codes "start" ∷ four_hex_digits bda.start ∷ []

-- the cursor positions on the eight pages
abbrev pub cursor_position_words : BiosData → List (List ℕ)
cursor_position_words bda = codes "at" ∷ four_hex_digits_each (slice_index bda.cursor_places) 0 8

-- the type of the cursor, the active page, the port of the CRT controller, the last row, and the
-- height of a character
unfoldable pub remaining_data_words : BiosData → List (List ℕ)
remaining_data_words bda =
    codes "type" ∷ four_hex_digits bda.cursor_type ∷ codes "page" ∷ two_hex_digits bda.page
    ∷ codes "crtc"
    ∷ four_hex_digits bda.crtc_address
    ∷ codes "last" ∷ two_hex_digits bda.last_row ∷ codes "height" ∷ four_hex_digits bda.height ∷ []

-- the word bda, and each of the data after its name
abbrev pub bda_text : BiosData → List ℕ
bda_text bda = dump_line (codes "bda") (mode_columns_size_and_start_words bda ++ (cursor_position_words bda
    ++ remaining_data_words bda))
