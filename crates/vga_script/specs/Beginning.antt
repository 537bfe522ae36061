-- The steps and the items that bytes begin with, read field by field.
use Rattle.std.specs.Prelude.{ℕ, zero, suc, ◌==◌, if◌then◌else◌, List, [], ◌∷◌, length, take, drop}
use Rattle.std.specs.Prelude.{get_or, Option, None, Some}
use Rattle.byteorder.specs.Endian.{little_number}
use Rattle.vga_script.specs.declared.step.Step.{Step}
use Rattle.vga_script.specs.declared.step.Step.TheVariants.{Out, OutWord, In, InWord, Put, PutWord}
use Rattle.vga_script.specs.declared.step.Step.TheVariants.{Get, GetWord, Int, Advance, Frame, Show}
use Rattle.vga_script.specs.declared.version.Version.{Version}
use Rattle.vga_script.specs.declared.version.Version.TheVariants.{One, Two}
use Rattle.vga_script.specs.Version.{version_byte}
use Rattle.vga_script.specs.Item.{ScriptItems, script_of_items, Item, Once, Repeated}
use Rattle.vga_script.specs.declared.dump_range.Shown.TheVariants as shown
use Rattle.vga_script.specs.DumpRange.{kind_registers, kind_dac, kind_beam, kind_latches}
use Rattle.vga_script.specs.DumpRange.{kind_plane, kind_bios_data, kind_cells}
use Rattle.vga_script.specs.Spelling.{opcode_out, opcode_out_word, opcode_in, opcode_in_word}
use Rattle.vga_script.specs.Spelling.{opcode_put, opcode_put_word, opcode_get, opcode_get_word}
use Rattle.vga_script.specs.Spelling.{opcode_int, opcode_advance, opcode_frame, opcode_show}
use Rattle.vga_script.specs.Spelling.{opcode_repeat}

-- a call of the BIOS whose block has this length, and what follows its block
abbrev pub call_at : ℕ → ℕ → ℕ → ℕ → ℕ → List ℕ → Option (Step × List ℕ)
call_at ax bx cx dx len rest = Some (Int ax bx cx dx (take len rest), drop len rest)

-- a dump of this kind, with its fields and what follows them
abbrev pub dump_at : ℕ → List ℕ → Option (Step × List ℕ)
dump_at kind rest =
    if kind == kind_registers then Some (Show shown.Registers, rest)
    else if kind == kind_dac then Some (Show (shown.Dac (get_or rest 0 0)), drop 1 rest)
    else if kind == kind_beam then Some (Show shown.Beam, rest)
    else if kind == kind_latches then Some (Show shown.Latches, rest)
    else if kind == kind_plane then Some (
      Show (shown.Plane (get_or rest 0 0)
          (little_number 2 (drop 1 rest)) (little_number 2 (drop 3 rest))),
      drop 5 rest,
    )
    else if kind == kind_bios_data then Some (Show shown.BiosData, rest)
    else if kind == kind_cells then Some (Show shown.Cells, rest)
    else None

-- the step of an opcode and its fields, and what follows them
abbrev pub step_of_opcode : ℕ → List ℕ → Option (Step × List ℕ)
step_of_opcode opcode rest =
    if opcode == opcode_out then Some (Out (little_number 2 rest) (get_or rest 2 0), drop 3 rest)
    else if opcode == opcode_out_word then Some (
      OutWord (little_number 2 rest)
          (little_number 2 (drop 2 rest)),
      drop 4 rest,
    )
    else if opcode == opcode_in then Some (In (little_number 2 rest), drop 2 rest)
    else if opcode == opcode_in_word then Some (InWord (little_number 2 rest), drop 2 rest)
    else if opcode == opcode_put then Some (
      Put (little_number 4 rest) (get_or rest 4 0),
      drop 5 rest,
    )
    else if opcode == opcode_put_word then Some (
      PutWord (little_number 4 rest)
          (little_number 2 (drop 4 rest)),
      drop 6 rest,
    )
    else if opcode == opcode_get then Some (Get (little_number 4 rest), drop 4 rest)
    else if opcode == opcode_get_word then Some (GetWord (little_number 4 rest), drop 4 rest)
    else if opcode == opcode_int then call_at (little_number 2 rest) (little_number 2 (drop 2 rest))
    (little_number 2 (drop 4 rest)) (little_number 2 (drop 6 rest))
    (little_number 2 (drop 8 rest)) (drop 10 rest)
    else if opcode == opcode_advance then Some (Advance (little_number 4 rest), drop 4 rest)
    else if opcode == opcode_frame then Some (Frame, rest)
    else if opcode == opcode_show then dump_at (get_or rest 0 0) (drop 1 rest)
    else None

-- the step that bytes begin with, and what follows it
abbrev pub step_of : List ℕ → Option (Step × List ℕ)
step_of [] = None
step_of (opcode ∷ rest) = step_of_opcode opcode rest

-- a step that was read, followed by those of the rest; or none
abbrev pub step_followed_by_rest : Option (Step × List ℕ) → (List ℕ → List Step) → List Step
step_followed_by_rest None others = []
step_followed_by_rest (Some read) others = read.0 ∷ others read.1

-- the steps that bytes begin with, at most `most` of them
abbrev pub steps_from : ℕ → List ℕ → List Step
steps_from zero bytes = []
steps_from (suc most) bytes = step_followed_by_rest (step_of bytes) (steps_from most)

-- all steps that bytes begin with
unfoldable pub steps_in : List ℕ → List Step
steps_in bytes = steps_from (length bytes) bytes

-- what follows a step that was read and those after it; or the bytes themselves, if none was read
abbrev pub rest_after_step_and_others : Option (Step × List ℕ) → (List ℕ → List ℕ) → List ℕ → List ℕ
rest_after_step_and_others None behind bytes = bytes
rest_after_step_and_others (Some read) behind bytes = behind read.1

-- what follows those steps
abbrev pub rest_behind_steps : ℕ → List ℕ → List ℕ
rest_behind_steps zero bytes = bytes
rest_behind_steps (suc most) bytes =
    rest_after_step_and_others (step_of bytes) (rest_behind_steps most) bytes

-- what follows all steps that bytes begin with
unfoldable pub behind_steps : List ℕ → List ℕ
behind_steps bytes = rest_behind_steps (length bytes) bytes

-- the item of a step that was read
abbrev pub step_item : Option (Step × List ℕ) → Option (Item × List ℕ)
step_item None = None
step_item (Some read) = Some (Once read.0, read.1)

-- a repeat of this count whose steps these bytes begin with, and what follows its end
abbrev pub repeat_item : ℕ → List ℕ → Option (Item × List ℕ)
repeat_item count bytes = Some (Repeated count (steps_in bytes), drop 1 (behind_steps bytes))

-- the item of an opcode and of the bytes after it, and what follows the item
abbrev pub item_of_opcode : ℕ → List ℕ → Option (Item × List ℕ)
item_of_opcode opcode rest =
    if opcode == opcode_repeat then repeat_item (little_number 2 rest) (drop 2 rest)
    else step_item (step_of_opcode opcode rest)

-- the item that bytes begin with, and what follows it
abbrev pub item_of : List ℕ → Option (Item × List ℕ)
item_of [] = None
item_of (opcode ∷ rest) = item_of_opcode opcode rest

-- an item that was read, followed by those of the rest; or none
abbrev pub item_followed_by_rest : Option (Item × List ℕ) → (List ℕ → List Item) → List Item
item_followed_by_rest None others = []
item_followed_by_rest (Some read) others = read.0 ∷ others read.1

-- the items that bytes begin with, at most `most` of them
abbrev pub items_from : ℕ → List ℕ → List Item
items_from zero bytes = []
items_from (suc most) bytes = item_followed_by_rest (item_of bytes) (items_from most)

-- all items that bytes begin with
unfoldable pub items_in : List ℕ → List Item
items_in bytes = items_from (length bytes) bytes

-- the version of a byte, if the byte is that of a version
abbrev pub version_of : ℕ → Version
version_of byte = if byte == version_byte Two then Two else One

-- The script that bytes spell: the version after the magic, and the items after the version.
unfoldable pub script_of_bytes : List ℕ → ScriptItems
script_of_bytes bytes = script_of_items (version_of (get_or bytes 4 0)) (items_in (drop 5 bytes))
