-- The first fault of bytes that are too long, or spell no script.
use Rattle.std.specs.Prelude.{ℕ, ◌≡◌, ◌≢◌, ◌<◌, ◌≤◌, ◌+◌, ◌==◌, ◌⊎◌, if◌then◌else◌, List, [], ◌∷◌}
use Rattle.std.specs.Prelude.{◌++◌, length, ◌^◌, drop, Option, None, Some}
use Rattle.byteorder.specs.Endian.{little_bytes, little_number}
use Rattle.vga_bits.specs.declared.fault.Fault.{Fault}
use Rattle.vga_bits.specs.declared.fault.Fault.TheVariants.{BadMagic, BadVersion, BadStep}
use Rattle.vga_bits.specs.declared.fault.Fault.TheVariants.{Truncated, TooLong, TooMany}
use Rattle.vga_script.specs.declared.step.Step.{Step}
use Rattle.vga_script.specs.declared.step.Step.TheVariants.{Show}
use Rattle.vga_script.specs.declared.dump_range.Shown.TheVariants as shown
use Rattle.vga_script.specs.Item.{Item, ScriptItems, expanded, step_limit, steps_of_item}
use Rattle.vga_script.specs.declared.version.Version.{Version}
use Rattle.vga_script.specs.DumpRange.{IsShownInRange, kind_registers, kind_dac, kind_beam}
use Rattle.vga_script.specs.DumpRange.{kind_latches, kind_plane, kind_bios_data, kind_cells}
use Rattle.vga_script.specs.Version.{version_byte, AllowsRepeats}
use Rattle.vga_script.specs.Spelling.{script_limit, magic, opcode_out, opcode_out_word, opcode_in}
use Rattle.vga_script.specs.Spelling.{opcode_in_word, opcode_put, opcode_put_word, opcode_get}
use Rattle.vga_script.specs.Spelling.{opcode_get_word, opcode_int, opcode_advance, opcode_frame}
use Rattle.vga_script.specs.Spelling.{opcode_show, opcode_repeat, opcode_end, spelling, SpellsSteps}
use Rattle.vga_script.specs.Spelling.{Spells, StartsWithItem}

-- How many bytes a dump has that begins with these: its kind and the fields of that kind, or None
-- for an unknown kind. Without a byte of a kind it is 1.
abbrev pub dump_len : List ℕ → Option ℕ
dump_len [] = Some 1
dump_len (kind ∷ rest) =
    if kind == kind_registers then Some 1
    else if kind == kind_dac then Some 2
    else if kind == kind_beam then Some 1
    else if kind == kind_latches then Some 1
    else if kind == kind_plane then Some 6
    else if kind == kind_bios_data then Some 1
    else if kind == kind_cells then Some 1
    else None

-- How many bytes of fields follow an opcode, or None for an unknown opcode. A call of the BIOS has
-- four registers, the length of its block, and the block; a length that is cut off counts as 0.
abbrev pub fields_len : ℕ → List ℕ → Option ℕ
fields_len opcode rest =
    if opcode == opcode_out then Some 3
    else if opcode == opcode_out_word then Some 4
    else if opcode == opcode_in then Some 2
    else if opcode == opcode_in_word then Some 2
    else if opcode == opcode_put then Some 5
    else if opcode == opcode_put_word then Some 6
    else if opcode == opcode_get then Some 4
    else if opcode == opcode_get_word then Some 4
    else if opcode == opcode_int then Some (10 + little_number 2 (drop 8 rest))
    else if opcode == opcode_advance then Some 4
    else if opcode == opcode_frame then Some 0
    else if opcode == opcode_show then dump_len rest
    else None

-- the bytes begin with no opcode, or with a dump of an unknown kind
abbrev pub StartsWithNoOpcode : List ℕ → Type 0
StartsWithNoOpcode bytes = (opcode : ℕ) × (rest : List ℕ) × (bytes ≡ opcode ∷ rest)
    × (fields_len opcode rest ≡ None)

-- The bytes begin with a whole dump of a plane that is out of range: of no plane, of no bytes or
-- more than 256, or past the plane's end. The offset and the count are below 65,536, since larger
-- numbers would be spelled as smaller ones are.
abbrev pub StartsWithPlaneOutOfRange : List ℕ → Type 0
StartsWithPlaneOutOfRange bytes =
    (plane : ℕ) × (offset : ℕ) × (count : ℕ) × (rest : List ℕ) × (offset < 2 ^ 16)
    × (count < 2 ^ 16)
    × (bytes ≡ spelling (Show (shown.Plane plane offset count)) ++ rest)
    × (IsShownInRange (shown.Plane plane offset count) → ⊥)

-- no step begins so, however the bytes go on
abbrev pub StartsWithBadStep : List ℕ → Type 0
StartsWithBadStep bytes = StartsWithNoOpcode bytes ⊎ StartsWithPlaneOutOfRange bytes

-- the bytes begin with an opcode, and end before the last byte of its fields
abbrev pub StartsWithCutStep : List ℕ → Type 0
StartsWithCutStep bytes =
    (opcode : ℕ) × (rest : List ℕ) × (needed : ℕ) × (bytes ≡ opcode ∷ rest)
    × (fields_len opcode rest ≡ Some needed) × (length rest < needed)

-- the bytes begin with the opcode of a repeat, and this version has repeats
abbrev pub StartsWithRepeat : Version → List ℕ → Type 0
StartsWithRepeat version bytes = AllowsRepeats version
    × ((rest : List ℕ) × (bytes ≡ opcode_repeat ∷ rest))

-- the bytes begin with a repeat whose count is 0
abbrev pub StartsWithCountZero : Version → List ℕ → Type 0
StartsWithCountZero version bytes = AllowsRepeats version
    × ((rest : List ℕ) × (bytes ≡ opcode_repeat ∷ (little_bytes 2 0 ++ rest)))

-- the bytes begin with a repeat, and end before its count does
abbrev pub StartsWithCutCount : Version → List ℕ → Type 0
StartsWithCutCount version bytes = AllowsRepeats version
    × ((rest : List ℕ) × (bytes ≡ opcode_repeat ∷ rest) × (length rest < 2))

-- No item of a script of this version begins so, however the bytes go on: neither a step nor a
-- repeat, or a repeat whose count is 0.
abbrev pub StartsWithBadItem : Version → List ℕ → Type 0
StartsWithBadItem version bytes = (StartsWithBadStep bytes × (StartsWithRepeat version bytes → ⊥))
    ⊎ StartsWithCountZero version bytes

-- the bytes begin with a step that is cut off, or with a repeat whose count is cut off
abbrev pub StartsWithCutItem : Version → List ℕ → Type 0
StartsWithCutItem version bytes = StartsWithCutStep bytes ⊎ StartsWithCutCount version bytes

-- the bytes begin with what no repeat contains: neither a step nor the repeat's end
abbrev pub StartsWithNeitherStepNorRepeatEnd : List ℕ → Type 0
StartsWithNeitherStepNorRepeatEnd bytes = StartsWithBadStep bytes × ((rest : List ℕ) → bytes ≢ opcode_end ∷ rest)

-- These bytes are `len` good steps, followed by the rest.
pub record HasStepsBefore (bytes : List ℕ) (len : ℕ) (rest : List ℕ) : Type 0 where
  pub prefix : List ℕ
  pub steps : List Step
  pub whole : bytes ≡ prefix ++ rest
  pub good : SpellsSteps prefix steps
  pub count : len ≡ length steps

-- The bytes begin with a repeat, and the rest stands in it, `distance` bytes after its opcode.
-- Between the two are the count and good steps.
pub record StandsInRepeat (version : Version) (bytes : List ℕ) (distance : ℕ)
    (rest : List ℕ) : Type 0 where
  pub count : ℕ
  pub body : List ℕ
  pub len : ℕ
  pub allowed : AllowsRepeats version
  pub some : 0 < count
  pub small : count < 2 ^ 16
  pub whole : bytes ≡ opcode_repeat ∷ (little_bytes 2 count ++ body)
  pub good : HasStepsBefore body len rest
  pub distance_is : distance + length rest ≡ length bytes

-- The fault of bytes at this offset of a script of this version, after items that mean `so_far`
-- steps. The item that begins there is bad or cut off; or a step in its repeat is bad or cut off;
-- or the repeat has no end; or with the item the script means more steps than it may. A fault of a
-- step in a repeat has the offset of that step, the others have that of the item.
abbrev pub IsItemFault : Version → ℕ → ℕ → List ℕ → Fault → Type 0
IsItemFault version so_far offset bytes (BadStep at) =
    ((at ≡ offset) × StartsWithBadItem version bytes)
    ⊎ ((distance : ℕ) × (rest : List ℕ) × (at ≡ offset + distance)
    × StandsInRepeat version bytes distance rest
    × StartsWithNeitherStepNorRepeatEnd rest)
IsItemFault version so_far offset bytes (Truncated at) =
    ((at ≡ offset) × (StartsWithCutItem version bytes
    ⊎ ((distance : ℕ) × StandsInRepeat version bytes distance [])))
    ⊎ ((distance : ℕ) × (rest : List ℕ) × (at ≡ offset + distance)
    × StandsInRepeat version bytes distance rest
    × StartsWithCutStep rest)
IsItemFault version so_far offset bytes (TooMany at) =
    (at ≡ offset) × ((first : Item) × (rest : List ℕ) × StartsWithItem version bytes first rest
    × (step_limit < so_far + length (steps_of_item first)))
IsItemFault version so_far offset bytes _ = ⊥

-- The bytes before this offset spell a script, and the rest begins at this offset.
pub record SpellsUpTo (bytes : List ℕ) (script : ScriptItems) (offset : ℕ)
    (rest : List ℕ) : Type 0 where
  pub prefix : List ℕ
  pub whole : bytes ≡ prefix ++ rest
  pub good : Spells prefix script
  pub place : offset ≡ length prefix

-- after good items the next one has this fault
abbrev pub HasItemFault : List ℕ → Fault → Type 0
HasItemFault bytes fault =
    (script : ScriptItems) × (offset : ℕ) × (rest : List ℕ) × SpellsUpTo bytes script offset rest
    × IsItemFault script.version (length (expanded script.items)) offset rest fault

-- The first fault of bytes that spell no script, in the order of reading: they do not begin with
-- the magic; nothing follows it, or no version; or after good items the next one has a fault.
abbrev pub IsSpellingFault : List ℕ → Fault → Type 0
IsSpellingFault bytes BadMagic = (rest : List ℕ) → bytes ≢ magic ++ rest
IsSpellingFault bytes BadVersion = (other : ℕ) × (rest : List ℕ) × (bytes ≡ magic ++ other ∷ rest)
    × ((version : Version) → other ≢ version_byte version)
IsSpellingFault bytes (BadStep at) = HasItemFault bytes (BadStep at)
IsSpellingFault bytes (Truncated at) = ((bytes ≡ magic) × (at ≡ 4))
    ⊎ HasItemFault bytes (Truncated at)
IsSpellingFault bytes (TooMany at) = HasItemFault bytes (TooMany at)
IsSpellingFault bytes _ = ⊥

-- the first fault of some bytes: they are too long, which comes before all others, or they spell no
-- script
abbrev pub IsFault : List ℕ → Fault → Type 0
IsFault bytes fault = ((fault ≡ TooLong) × (script_limit < length bytes))
    ⊎ ((length bytes ≤ script_limit) × IsSpellingFault bytes fault)
