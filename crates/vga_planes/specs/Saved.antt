-- The display memory as bytes: plane after plane, each from its first offset to its last.
use Rattle.std.specs.Prelude.{ℕ, List, ◌++◌, take, drop}
use Rattle.vga_bits.specs.Four.{Four}

-- the bytes of four planes
unfoldable pub saved_memory : Four (List ℕ) → List ℕ
saved_memory planes = planes.plane0 ++ (planes.plane1 ++ (planes.plane2 ++ planes.plane3))

-- four planes from one list of bytes: the first three take `size` bytes each, and the last takes
-- the rest
abbrev pub planes_cut_from : ℕ → List ℕ → Four (List ℕ)
planes_cut_from size bytes = record {
  plane0 = take size bytes;
  plane1 = take size (drop size bytes);
  plane2 = take size (drop size (drop size bytes));
  plane3 = drop size (drop size (drop size bytes));
}

-- the four planes with these bytes, 65,536 for each plane
unfoldable pub memory_from : List ℕ → Four (List ℕ)
memory_from bytes = planes_cut_from 65536 bytes
