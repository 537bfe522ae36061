-- Writing the digits of a table, byte by byte.
use Rattle.std.proofs.Common.{◌≡◌, ◌∙◌, ℕ, ◌+◌, ◌<◌, ◌≤◌, List, [], ◌++◌, length, get_or, take, drop, take-append-drop, Option, sym, ap, subst}
use Rattle.std.proofs.lemmas.List.{take_all, flat_map_more}
use Rattle.std.proofs.lemmas.Grind.{flat_map-append}
use Rattle.std.specs.List.{flat_map}
use Rattle.std.specs.Io.KnownBytes.{Appends}
use Rattle.std.proofs.KnownBytes.{Appends-trans}
use Rattle.vga_bits.specs.Hex.{two_hex_digits}
use Rattle.vga_bits.specs.Tracked.{AppendsPrefix}
use Rattle.vga_bits.proofs.WritingLemmas.{prefix_of_more}
use Rattle.vga_run.proofs.ReportLemmas.{items_to, prefix_behind}

-- the digits of some bytes
abbrev pub digits : List ℕ → List ℕ
digits bytes = flat_map two_hex_digits bytes

-- the digits of the bytes up to byte i, and its own
digits_to : (bytes : List ℕ) (i d byte : ℕ) → i < length bytes → byte ≡ get_or bytes i d → digits (take i bytes) ++ two_hex_digits byte ≡ digits (take (i + 1) bytes)
digits_to bytes i d byte within is = flat_map_more two_hex_digits [] (take i bytes) byte ∙ ap digits (sym (items_to bytes i d byte within is))

-- one more byte
pub digits_more : (old mid new : Option (List ℕ)) (bytes : List ℕ) (i d byte : ℕ) → i < length bytes → byte ≡ get_or bytes i d
    → Appends old mid (digits (take i bytes)) → Appends mid new (two_hex_digits byte) → Appends old new (digits (take (i + 1) bytes))
digits_more old mid new bytes i d byte within is a more =
    subst (Appends old new) (digits_to bytes i d byte within is) (Appends-trans old mid new (digits (take i bytes)) (two_hex_digits byte) a more)

-- a prefix of one more byte
pub digits_prefix : (old mid new : Option (List ℕ)) (bytes : List ℕ) (i d byte : ℕ) → i < length bytes → byte ≡ get_or bytes i d
    → Appends old mid (digits (take i bytes)) → AppendsPrefix mid new (two_hex_digits byte) → AppendsPrefix old new (digits bytes)
digits_prefix old mid new bytes i d byte within is a more =
    let rest = digits (drop (i + 1) bytes) in
    let prefix = subst (AppendsPrefix old new) (digits_to bytes i d byte within is) (prefix_behind old mid new (digits (take i bytes)) (two_hex_digits byte) a more) in
    let whole : digits (take (i + 1) bytes) ++ rest ≡ digits bytes = sym (flat_map-append two_hex_digits (take (i + 1) bytes) (drop (i + 1) bytes))
    ∙ ap digits (take-append-drop (i + 1) bytes) in
    subst (AppendsPrefix old new) whole (prefix_of_more old new (digits (take (i + 1) bytes)) rest prefix)

-- all bytes
pub digits_all : (old new : Option (List ℕ)) (bytes : List ℕ) (i : ℕ) → length bytes ≤ i → Appends old new (digits (take i bytes)) →
    Appends old new (digits bytes)
digits_all old new bytes i past a = subst (λ (l : List ℕ). Appends old new (digits l)) (take_all i bytes past) a
