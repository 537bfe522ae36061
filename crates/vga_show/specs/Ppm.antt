-- A picture as a Netpbm PPM of the kind P6.
use Rattle.std.specs.Prelude.{ℕ, List, ◌++◌, codes, decimal}

-- the header, which stands before the dots: P6, the width, the height, and 63, the greatest value
unfoldable pub ppm_header : ℕ → ℕ → List ℕ
ppm_header width height = codes "P6\n" ++ (decimal width
    ++ (codes " " ++ (decimal height ++ codes "\n63\n")))

-- the picture: the header, then red, green and blue of each dot
abbrev pub ppm : ℕ → ℕ → List ℕ → List ℕ
ppm width height bytes = ppm_header width height ++ bytes
