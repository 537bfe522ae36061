-- The names of refusals, as a report has them.
use Rattle.std.specs.Prelude.{ℕ, List, codes}
use Rattle.vga_bits.specs.declared.refusal.Refusal.{Refusal}
use Rattle.vga_bits.specs.declared.refusal.Refusal.TheVariants.{NotDecoded, NotInProfile, NoMode}
use Rattle.vga_bits.specs.declared.refusal.Refusal.TheVariants.{BadFunction, BadMode, WrongKind}
use Rattle.vga_bits.specs.declared.refusal.Refusal.TheVariants.{BadPage, Outside, CountPast}
use Rattle.vga_bits.specs.declared.refusal.Refusal.TheVariants.{BadRegister, BadBlock, TooFar}
use Rattle.vga_bits.specs.declared.refusal.Refusal.TheVariants.{BadHeight}

-- a refusal's number and name
abbrev pub refusal_name : Refusal → List ℕ
refusal_name NotDecoded = codes "E1 NotDecoded"
refusal_name NotInProfile = codes "E2 NotInProfile"
refusal_name NoMode = codes "E3 NoMode"
refusal_name BadFunction = codes "E4 BadFunction"
refusal_name BadMode = codes "E5 BadMode"
refusal_name WrongKind = codes "E6 WrongKind"
refusal_name BadPage = codes "E7 BadPage"
refusal_name Outside = codes "E8 Outside"
refusal_name CountPast = codes "E9 CountPast"
refusal_name BadRegister = codes "E10 BadRegister"
refusal_name BadBlock = codes "E11 BadBlock"
refusal_name TooFar = codes "E12 TooFar"
refusal_name BadHeight = codes "E13 BadHeight"
