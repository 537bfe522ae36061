-- A palette register has six bits.
use Rattle.std.proofs.Common.{ℕ, ◌<◌, List, refl}
use Rattle.std.specs.Prelude.{slice_index}
use Rattle.vga_bits.specs.RegFile.{AreWithinMasks}
use Rattle.vga_bits.proofs.RegisterLemmas.{kept_below}
use Rattle.vga_attr.specs.Attr.{attr_masks}

pub palette_small : (registers : List ℕ) → AreWithinMasks attr_masks registers → (i : ℕ) → i < 16 → slice_index registers i < 64
palette_small registers are = kept_below attr_masks registers 16 64 are refl
