-- The bytes of a script: the magic VGAS, the version, and the items in order.
use Rattle.std.specs.Prelude.{ℕ, ◌≡◌, ◌≤◌, List, [], ◌∷◌, ◌++◌, length}
use Rattle.std.specs.List.{flat_map}
use Rattle.byteorder.specs.Endian.{little_bytes}
use Rattle.vga_script.specs.declared.step.Step.{Step}
use Rattle.vga_script.specs.declared.step.Step.TheVariants.{Out, OutWord, In, InWord, Put, PutWord}
use Rattle.vga_script.specs.declared.step.Step.TheVariants.{Get, GetWord, Int, Advance, Frame, Show}
use Rattle.vga_script.specs.Item.{Item, Once, Repeated, ScriptItems, expanded, step_limit, IsItemOf}
use Rattle.vga_script.specs.declared.version.Version.{Version}
use Rattle.vga_script.specs.DumpRange.{operand_bytes_of_show}
use Rattle.vga_script.specs.Step.{IsInRange}
use Rattle.vga_script.specs.Version.{version_byte}

-- how many bytes a script may have, and how many a text
abbrev pub script_limit : ℕ
script_limit = 16777216

-- the magic
abbrev pub magic : List ℕ
magic = 0x56 ∷ 0x47 ∷ 0x41 ∷ 0x53 ∷ []

-- the header, which stands before the items: the magic and the version
abbrev pub header : Version → List ℕ
header version = magic ++ version_byte version ∷ []

-- the opcode of a write of a byte to a port
abbrev pub opcode_out : ℕ
opcode_out = 0x01

-- the opcode of a write of a word to a port
abbrev pub opcode_out_word : ℕ
opcode_out_word = 0x02

-- the opcode of a read of a byte from a port
abbrev pub opcode_in : ℕ
opcode_in = 0x03

-- the opcode of a read of a word from a port
abbrev pub opcode_in_word : ℕ
opcode_in_word = 0x04

-- the opcode of a write of a byte to an address
abbrev pub opcode_put : ℕ
opcode_put = 0x05

-- the opcode of a write of a word to an address
abbrev pub opcode_put_word : ℕ
opcode_put_word = 0x06

-- the opcode of a read of a byte from an address
abbrev pub opcode_get : ℕ
opcode_get = 0x07

-- the opcode of a read of a word from an address
abbrev pub opcode_get_word : ℕ
opcode_get_word = 0x08

-- the opcode of a call of the video BIOS
abbrev pub opcode_int : ℕ
opcode_int = 0x09

-- the opcode of an advance of the clock
abbrev pub opcode_advance : ℕ
opcode_advance = 0x0A

-- the opcode of a step that draws a frame
abbrev pub opcode_frame : ℕ
opcode_frame = 0x0B

-- the opcode of a dump of the adapter
abbrev pub opcode_show : ℕ
opcode_show = 0x0C

-- the opcode that begins a repeat
abbrev pub opcode_repeat : ℕ
opcode_repeat = 0x0D

-- the opcode that ends a repeat
abbrev pub opcode_end : ℕ
opcode_end = 0x0E

-- the bytes of a step: its opcode, then its fields with the low byte first; the length of a block
-- stands before the block
abbrev pub spelling : Step → List ℕ
spelling (Out port value) = opcode_out ∷ (little_bytes 2 port ++ value ∷ [])
spelling (OutWord port value) = opcode_out_word ∷ (little_bytes 2 port ++ little_bytes 2 value)
spelling (In port) = opcode_in ∷ little_bytes 2 port
spelling (InWord port) = opcode_in_word ∷ little_bytes 2 port
spelling (Put address value) = opcode_put ∷ (little_bytes 4 address ++ value ∷ [])
spelling (PutWord address value) = opcode_put_word ∷ (little_bytes 4 address
    ++ little_bytes 2 value)
spelling (Get address) = opcode_get ∷ little_bytes 4 address
spelling (GetWord address) = opcode_get_word ∷ little_bytes 4 address
spelling (Int ax bx cx dx block) =
    opcode_int ∷ (little_bytes 2 ax ++ (little_bytes 2 bx
    ++ (little_bytes 2 cx ++ (little_bytes 2 dx ++ (little_bytes 2 (length block) ++ block)))))
spelling (Advance dots) = opcode_advance ∷ little_bytes 4 dots
spelling Frame = opcode_frame ∷ []
spelling (Show what) = opcode_show ∷ operand_bytes_of_show what

-- the bytes of an item: those of its step; or the opcode of a repeat, its count, its steps, and the
-- opcode of its end
abbrev pub item_spelling : Item → List ℕ
item_spelling (Once step) = spelling step
item_spelling (Repeated count steps) = opcode_repeat ∷ (little_bytes 2 count
    ++ (flat_map spelling steps ++ opcode_end ∷ []))

-- the bytes of a script
abbrev pub encoding : ScriptItems → List ℕ
encoding script = header script.version ++ flat_map item_spelling script.items

-- the bytes begin with this step, and the rest follows it
abbrev pub StartsWithStep : List ℕ → Step → List ℕ → Type 0
StartsWithStep bytes step rest = IsInRange step × (bytes ≡ spelling step ++ rest)

-- the bytes spell these steps, in order, and nothing else
abbrev pub SpellsSteps : List ℕ → List Step → Type 0
SpellsSteps bytes [] = bytes ≡ []
SpellsSteps bytes (step ∷ steps) = (rest : List ℕ) × StartsWithStep bytes step rest
    × SpellsSteps rest steps

-- the bytes begin with this item, which this version allows, and the rest follows it
abbrev pub StartsWithItem : Version → List ℕ → Item → List ℕ → Type 0
StartsWithItem version bytes first rest = IsItemOf version first
    × (bytes ≡ item_spelling first ++ rest)

-- the bytes spell these items, in order, and nothing else
abbrev pub SpellsItems : Version → List ℕ → List Item → Type 0
SpellsItems version bytes [] = bytes ≡ []
SpellsItems version bytes (first ∷ others) = (rest : List ℕ)
    × StartsWithItem version bytes first rest × SpellsItems version rest others

-- the bytes spell a script that means no more steps than a script may
abbrev pub Spells : List ℕ → ScriptItems → Type 0
Spells bytes script =
    (rest : List ℕ) × (bytes ≡ header script.version ++ rest)
    × SpellsItems script.version rest script.items
    × (length (expanded script.items) ≤ step_limit)
