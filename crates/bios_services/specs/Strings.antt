-- Typing a string: function 13.
-- From the IBM PS/2 and PC BIOS Interface Technical Reference, "Interrupt 10H - Video", (AH) = 13H.
use Rattle.std.specs.Prelude.{ℕ, ◌+◌, ◌*◌, ◌%◌, ◌==◌, nat_le, true, if◌then◌else◌, List}
use Rattle.std.specs.Prelude.{slice_index}
use Rattle.bios_modes.specs.Bda.{BiosData}
use Rattle.bios_modes.specs.Fonts.{FontSet}
use Rattle.bios_services.specs.declared.regs.Regs.{Regs}
use Rattle.bios_services.specs.declared.colouring.Colouring.{Colouring}
use Rattle.bios_services.specs.declared.strings.StringCall.{StringCall}
use Rattle.bios_services.specs.Plan.{Plan, Done, ◌>>=◌, fold}
use Rattle.bios_services.specs.Registers.{high, low}
use Rattle.bios_services.specs.Cursor.{move_cursor_plan}
use Rattle.bios_services.specs.Teletype.{type_character_plan}

-- the string that the registers name: with AL 02 and 03 an attribute follows each character, and
-- AL 01 and 03 move the cursor
abbrev pub string_of : Regs → StringCall
string_of r = record {
  page = high r.bx;
  position = r.dx;
  colour = low r.bx;
  count = r.cx;
  has_attributes = nat_le 2 (low r.ax);
  moves_cursor = low r.ax % 2 == 1;
}

-- how many bytes of the block belong to a character
abbrev pub bytes_per_character : StringCall → ℕ
bytes_per_character s = if s.has_attributes then 2 else 1

-- how many bytes the block of a string has
abbrev pub string_block_len : StringCall → ℕ
string_block_len s = bytes_per_character s * s.count

-- character i of the block
abbrev pub character_at : StringCall → List ℕ → ℕ → ℕ
character_at s block i = slice_index block (bytes_per_character s * i)

-- the colour in which character i of the block is typed
abbrev pub colouring_of_character : StringCall → List ℕ → ℕ → Colouring
colouring_of_character s block i = record {
  colour = (if s.has_attributes then slice_index block (2 * i + 1)
      else s.colour);
  is_attribute = true;
}

-- the characters are typed one after another; the answer is the position after the last one
unfoldable pub type_string_plan : FontSet → BiosData → StringCall → List ℕ → Plan ℕ
type_string_plan fonts d s block =
    fold (λ i position. type_character_plan fonts d s.page position (character_at s block i)
    (colouring_of_character s block i)) s.count 0 s.position

-- 13: a string is typed, and if AL asks for it, the cursor moves to the position after it
unfoldable pub string_plan : FontSet → BiosData → StringCall → List ℕ → Plan BiosData
string_plan fonts d s block = do
  position ← type_string_plan fonts d s block
  if s.moves_cursor then move_cursor_plan d s.page position else Done d
