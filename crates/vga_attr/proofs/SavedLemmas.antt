-- An attribute controller is read back from its bytes.
use Rattle.std.proofs.Common.{◌≡◌, ◌<◌, arith, [], ◌∷◌, length, take, drop, length-append}
use Rattle.std.proofs.lemmas.List.{take_at, drop_at}
use Rattle.vga_bits.specs.Saved.{flag_byte}
use Rattle.vga_bits.proofs.SavedLemmas.{flag_back, flag_small}
use Rattle.vga_attr.specs.Attr.{AttrState, IsAttr}
use Rattle.vga_attr.specs.Saved.{saved_attr, IsSavedAttr, attr_from}

module _ (a : AttrState) (is : IsAttr a) where
  registers_are : take 21 (saved_attr a) ≡ a.registers
  unfolding saved_attr
  registers_are = take_at a.registers (a.index ∷ flag_byte a.is_data ∷ []) 21 is.size

  rest_is : drop 21 (saved_attr a) ≡ a.index ∷ flag_byte a.is_data ∷ []
  unfolding saved_attr
  rest_is = drop_at a.registers (a.index ∷ flag_byte a.is_data ∷ []) 21 is.size

  long : length (saved_attr a) ≡ 23
  unfolding saved_attr
  long = omega (arith, is.size, length-append a.registers (a.index ∷ flag_byte a.is_data ∷ []))

  pub attr_is_saved : a.index < 64 → IsSavedAttr (saved_attr a)
  attr_is_saved small = record {
    size = long;
    kept = rw registers_are is.kept;
    index = rw rest_is small;
    flag = rw rest_is (flag_small a.is_data);
  }

  pub attr_is_back : attr_from (saved_attr a) ≡ a
  unfolding attr_from
  attr_is_back = rw (registers_are, rest_is, flag_back a.is_data)
