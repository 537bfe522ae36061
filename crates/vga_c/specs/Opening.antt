-- What opening and closing a card does.
use Rattle.std.specs.Prelude.{◌≡◌, ◌≢◌, ◌⊎◌, ℕ, true, false, List, length}
use Rattle.bios_modes.specs.Fonts.{font_file_len, fonts_of}
use Rattle.vga_run.specs.Machine.{power_on_machine}
use Rattle.vga_c.specs.Handle.{HandleState}
use Rattle.vga_c.specs.Cards.{HoldsMachine}
use Rattle.vga_c.specs.Status.{open_already_status, font_size_status, out_of_memory_status}

-- the card stays as it is, and the status says why
abbrev pub IsUnchangedCard : ℕ → HandleState → HandleState → ℕ → Type 0
IsUnchangedCard why old new status = (new ≡ old) × (status ≡ why)

-- the card has a machine at power-on with the fonts of a font file; or an allocation failed
abbrev pub IsOpened : List ℕ → HandleState → HandleState → ℕ → Type 0
IsOpened file old new status = (HoldsMachine new (power_on_machine (fonts_of file)) × (status ≡ 0))
    ⊎ IsUnchangedCard out_of_memory_status old new status

-- a card that is not open is opened, if the font file has the right size
abbrev pub Opens : List ℕ → HandleState → HandleState → ℕ → Type 0
Opens file old new status = old.is_open ≡ false → length file ≡ font_file_len →
    IsOpened file old new status

-- otherwise it stays as it is
abbrev pub RefusesFile : List ℕ → HandleState → HandleState → ℕ → Type 0
RefusesFile file old new status = old.is_open ≡ false → length file ≢ font_file_len →
    IsUnchangedCard font_size_status old new status

-- a card that is open stays as it is
abbrev pub OpenCardStaysUnchanged : HandleState → HandleState → ℕ → Type 0
OpenCardStaysUnchanged old new status = old.is_open ≡ true → IsUnchangedCard open_already_status old new status

-- an open card is closed
abbrev pub Closes : HandleState → HandleState → ℕ → Type 0
Closes old new status = old.is_open ≡ true → (new.is_open ≡ false) × (status ≡ 0)
