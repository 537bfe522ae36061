-- BIOS data that a machine can have.
use Rattle.bios_modes.specs.Bda.{BiosData}
use Rattle.bios_modes.specs.Bounds.{IsBda}
use Rattle.bios_modes.specs.Valid.{IsValid}

-- the data are valid, and each cursor position is a word
pub record AreValidData (d : BiosData) : Type 0 where
  pub valid : IsValid d
  pub words : IsBda d
