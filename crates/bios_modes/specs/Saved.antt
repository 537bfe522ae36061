-- The BIOS data as bytes, in the order of their offsets; a word is two bytes, the low one first.
use Rattle.std.specs.Prelude.{ℕ, ◌≡◌, List, [], ◌∷◌, ◌++◌, length, drop, slice_index}
use Rattle.std.specs.List.{flat_map}
use Rattle.vga_bits.specs.Saved.{word_bytes, word_at, first_words}
use Rattle.bios_modes.specs.Bda.{BiosData}
use Rattle.bios_modes.specs.Valid.{IsValid}

-- the bytes before the cursor positions: mode, columns, size and start
abbrev pub saved_before_positions : BiosData → List ℕ
saved_before_positions d =
    (d.mode ∷ []) ++ (word_bytes d.columns ++ (word_bytes d.size ++ word_bytes d.start))

-- the bytes after the cursor positions: the cursor's type, the page, the CRT controller's address,
-- the last row and the height
abbrev pub saved_after_positions : BiosData → List ℕ
saved_after_positions d = word_bytes d.cursor_type ++ ((d.page ∷ []) ++ (word_bytes d.crtc_address
    ++ ((d.last_row ∷ []) ++ word_bytes d.height)))

-- all bytes of BIOS data
unfoldable pub saved_bda : BiosData → List ℕ
saved_bda d =
    saved_before_positions d ++ (flat_map word_bytes d.cursor_places ++ saved_after_positions d)

-- the bytes that follow the prefix
abbrev pub bytes_from_positions_on : List ℕ → List ℕ
bytes_from_positions_on bytes = drop 7 bytes

-- the bytes that follow the cursor positions
abbrev pub bytes_after_positions : List ℕ → List ℕ
bytes_after_positions bytes = drop 16 (bytes_from_positions_on bytes)

-- the BIOS data that these bytes spell
unfoldable pub bda_from : List ℕ → BiosData
bda_from bytes = record {
  mode = slice_index bytes 0;
  columns = word_at bytes 1;
  size = word_at bytes 3;
  start = word_at bytes 5;
  cursor_places = first_words 8 (bytes_from_positions_on bytes);
  cursor_type = word_at (bytes_after_positions bytes) 0;
  page = slice_index (bytes_after_positions bytes) 2;
  crtc_address = word_at (bytes_after_positions bytes) 3;
  last_row = slice_index (bytes_after_positions bytes) 5;
  height = word_at (bytes_after_positions bytes) 6;
}

-- the bytes are those of valid BIOS data
pub record IsSavedBda (bytes : List ℕ) : Type 0 where
  pub size : length bytes ≡ 31
  pub valid : IsValid (bda_from bytes)
