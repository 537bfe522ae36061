-- A machine as bytes: a header, the BIOS data, and the adapter. The fonts are not saved: whoever
-- opens a machine gives its fonts.
use Rattle.std.specs.Prelude.{ℕ, ◌≡◌, ◌+◌, ◌*◌, ◌/◌, ◌%◌, ◌≤◌, List, [], ◌∷◌, ◌++◌, length, take}
use Rattle.std.specs.Prelude.{drop}
use Rattle.std.specs.Prelude.{slice_index}
use Rattle.vga_bits.specs.Saved.{word_bytes, word_at}
use Rattle.vga_bits.specs.declared.state_fault.StateFault.{StateFault}
use Rattle.vga_bits.specs.declared.state_fault.StateFault.TheVariants.{BadMagic, BadVersion}
use Rattle.vga_bits.specs.declared.state_fault.StateFault.TheVariants.{BadLength, BadPart}
use Rattle.vga_card.specs.Saved.{saved_card, IsSavedCard, card_from}
use Rattle.vga_card.specs.FreshCanvas.{without_dots_of_ended_frame}
use Rattle.bios_modes.specs.Fonts.{FontSet}
use Rattle.bios_modes.specs.Saved.{saved_bda, IsSavedBda, bda_from}
use Rattle.vga_run.specs.declared.machine.Machine.{Machine}

-- the mark of a saved machine, ZAKS, and the version of the format, 1
abbrev pub saved_mark : List ℕ
saved_mark = 0x5A ∷ 0x41 ∷ 0x4B ∷ 0x53 ∷ 1 ∷ []

-- a number in four bytes, low byte first
abbrev pub four_bytes_of_number : ℕ → List ℕ
four_bytes_of_number n = word_bytes (n % 65536) ++ word_bytes (n / 65536)

-- the number of four bytes at `at`, low byte first
abbrev pub number_of_four_bytes : List ℕ → ℕ → ℕ
number_of_four_bytes bytes at = word_at bytes at + 65536 * word_at bytes (at + 2)

-- what follows the header: the BIOS data, and the adapter
unfoldable pub saved_parts : Machine → List ℕ
saved_parts m = saved_bda m.bda ++ saved_card m.card

-- the bytes of a saved machine; its header gives their number
unfoldable pub saved_machine : Machine → List ℕ
saved_machine m = (saved_mark ++ four_bytes_of_number (9 + length (saved_parts m))) ++ saved_parts m

-- what follows the header
abbrev pub past_header : List ℕ → List ℕ
past_header bytes = drop 9 bytes

-- what follows the BIOS data
abbrev pub past_bda : List ℕ → List ℕ
past_bda bytes = drop 31 (past_header bytes)

-- bytes begin with the mark of a saved machine
pub record HasMagic (bytes : List ℕ) : Type 0 where
  pub first : slice_index bytes 0 ≡ 0x5A
  pub second : slice_index bytes 1 ≡ 0x41
  pub third : slice_index bytes 2 ≡ 0x4B
  pub fourth : slice_index bytes 3 ≡ 0x53

-- bytes have this version of the format
pub record HasVersion (bytes : List ℕ) : Type 0 where
  pub version : slice_index bytes 4 ≡ 1

-- bytes are as many as their header says, and no fewer than the smallest saved machine
pub record HasLength (bytes : List ℕ) : Type 0 where
  pub counted : length bytes ≡ number_of_four_bytes bytes 5
  pub least : 265086 ≤ length bytes

-- bytes contain the parts of a machine
pub record HasParts (bytes : List ℕ) : Type 0 where
  pub bda : IsSavedBda (take 31 (past_header bytes))
  pub card : IsSavedCard (past_bda bytes)

-- bytes that can be restored as a machine
pub record IsSavedMachine (bytes : List ℕ) : Type 0 where
  pub magic : HasMagic bytes
  pub version : HasVersion bytes
  pub len : HasLength bytes
  pub parts : HasParts bytes

-- why bytes are not a saved machine; the first reason counts
abbrev pub IsStateFault : StateFault → List ℕ → Type 0
IsStateFault BadMagic bytes = ¬ HasMagic bytes
IsStateFault BadVersion bytes = HasMagic bytes × (¬ HasVersion bytes)
IsStateFault BadLength bytes = HasMagic bytes × HasVersion bytes × (¬ HasLength bytes)
IsStateFault BadPart bytes = HasMagic bytes × HasVersion bytes × HasLength bytes
    × (¬ HasParts bytes)

-- the machine that these bytes give, with these fonts
unfoldable pub machine_from : FontSet → List ℕ → Machine
machine_from fonts bytes = record {
  card = card_from (past_bda bytes);
  bda = bda_from (take 31 (past_header bytes));
  fonts = fonts;
}

-- the machine without the dots that no step can see any more
abbrev pub machine_without_unseen_dots : Machine → Machine
machine_without_unseen_dots m = record m { card = without_dots_of_ended_frame m.card }
