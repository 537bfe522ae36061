-- The attribute controller as bytes: the registers in their order, the index with the palette
-- address source, and 1 if the next write is data, else 0.
use Rattle.std.specs.Prelude.{ℕ, ◌≡◌, ◌<◌, List, [], ◌∷◌, ◌++◌, length, take, drop, slice_index}
use Rattle.vga_bits.specs.RegFile.{AreWithinMasks}
use Rattle.vga_bits.specs.Saved.{flag_byte, flag_at}
use Rattle.vga_attr.specs.Attr.{AttrState, attr_masks}

-- the bytes of an attribute controller
unfoldable pub saved_attr : AttrState → List ℕ
saved_attr a = a.registers ++ (a.index ∷ flag_byte a.is_data ∷ [])

-- bytes within the bounds of an attribute controller: 21 registers with the bits that each keeps,
-- an index of six bits, and a flag
pub record IsSavedAttr (bytes : List ℕ) : Type 0 where
  pub size : length bytes ≡ 23
  pub kept : AreWithinMasks attr_masks (take 21 bytes)
  pub index : slice_index (drop 21 bytes) 0 < 64
  pub flag : slice_index (drop 21 bytes) 1 < 2

-- the attribute controller that has these bytes
unfoldable pub attr_from : List ℕ → AttrState
attr_from bytes = record {
  registers = take 21 bytes;
  index = slice_index (drop 21 bytes) 0;
  is_data = flag_at (drop 21 bytes) 1;
}
