-- Lists of bytes.
use Rattle.std.specs.Prelude.{ℕ, List, [], Option, None, Some, Box, Vec, replicate}
use Rattle.std.specs.declared.alloc.Global.{Global}

-- n bytes, each 0. It is opaque, because a list of thousands would be written out in every goal.
unfoldable pub zeros : ℕ → List ℕ
zeros n = replicate n 0

-- the bytes of a vector, or an empty list if there is no vector
abbrev pub bytes_or_empty : Option (Box (Vec ℕ Global) Global) → List ℕ
bytes_or_empty None = []
bytes_or_empty (Some items) = items.value.items
