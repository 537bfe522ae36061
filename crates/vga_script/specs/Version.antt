-- The versions of scripts.
use Rattle.std.specs.Prelude.{ℕ}
use Rattle.vga_script.specs.declared.version.Version.{Version}
use Rattle.vga_script.specs.declared.version.Version.TheVariants.{One, Two}

-- the byte of a version
abbrev pub version_byte : Version → ℕ
version_byte One = 1
version_byte Two = 2

-- a script of this version may have repeats
abbrev pub AllowsRepeats : Version → Type 0
AllowsRepeats One = ⊥
AllowsRepeats Two = Unit {0}
