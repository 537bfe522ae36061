-- Steps whose fields fit into their bytes.
use Rattle.std.specs.Prelude.{ℕ, ◌<◌, ◌^◌, List, length}
use Rattle.std.specs.List.{AllByRecursion}
use Rattle.vga_script.specs.declared.step.Step.{Step}
use Rattle.vga_script.specs.DumpRange.{IsShownInRange}
use Rattle.vga_script.specs.declared.step.Step.TheVariants.{Out, OutWord, In, InWord, Put, PutWord}
use Rattle.vga_script.specs.declared.step.Step.TheVariants.{Get, GetWord, Int, Advance, Frame, Show}

-- a block of at most 65,535 bytes
abbrev pub IsBlock : List ℕ → Type 0
IsBlock block = (length block < 2 ^ 16) × AllByRecursion (λ byte. byte < 2 ^ 8) block

-- the fields of a step fit into their bytes
abbrev pub IsInRange : Step → Type 0
IsInRange (Out port value) = (port < 2 ^ 16) × (value < 2 ^ 8)
IsInRange (OutWord port value) = (port < 2 ^ 16) × (value < 2 ^ 16)
IsInRange (In port) = port < 2 ^ 16
IsInRange (InWord port) = port < 2 ^ 16
IsInRange (Put address value) = (address < 2 ^ 32) × (value < 2 ^ 8)
IsInRange (PutWord address value) = (address < 2 ^ 32) × (value < 2 ^ 16)
IsInRange (Get address) = address < 2 ^ 32
IsInRange (GetWord address) = address < 2 ^ 32
IsInRange (Int ax bx cx dx block) = (ax < 2 ^ 16) × (bx < 2 ^ 16) × (cx < 2 ^ 16) × (dx < 2 ^ 16)
    × IsBlock block
IsInRange (Advance dots) = dots < 2 ^ 32
IsInRange Frame = Unit {0}
IsInRange (Show what) = IsShownInRange what

-- the fields of all steps do
abbrev pub AreInRange : List Step → Type 0
AreInRange steps = AllByRecursion IsInRange steps
