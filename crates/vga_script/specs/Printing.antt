-- The printed text of a script: a line for each step, and for the beginning and the end of each
-- repeat.
use Rattle.std.specs.Prelude.{ℕ, nat_lt, if◌then◌else◌, List, [], ◌∷◌, ◌++◌, codes, decimal}
use Rattle.std.specs.List.{join_with_byte, flat_map}
use Rattle.hex.specs.Hex.{encode_upper}
use Rattle.vga_bits.specs.Hex.{hex}
use Rattle.vga_script.specs.declared.step.Step.{Step}
use Rattle.vga_script.specs.declared.step.Step.TheVariants.{Out, OutWord, In, InWord, Put, PutWord}
use Rattle.vga_script.specs.declared.step.Step.TheVariants.{Get, GetWord, Int, Advance, Frame, Show}
use Rattle.vga_script.specs.Item.{Item, Once, Repeated, ScriptItems}
use Rattle.vga_script.specs.declared.version.Version.{Version}
use Rattle.vga_script.specs.declared.version.Version.TheVariants.{One, Two}
use Rattle.vga_script.specs.declared.dump_range.Shown.{Shown}
use Rattle.vga_script.specs.declared.dump_range.Shown.TheVariants as shown
use Rattle.vga_script.specs.Text.{keyword_name, keyword_of, shown_name}

-- the digits of a port, at least three
unfoldable pub port_text : ℕ → List ℕ
port_text port = if nat_lt port 0x1000 then hex 3 port else hex 4 port

-- the digits of an address, at least five
unfoldable pub address_text : ℕ → List ℕ
address_text address =
    if nat_lt address 0x10_0000 then hex 5 address
    else if nat_lt address 0x100_0000 then hex 6 address
    else if nat_lt address 0x1000_0000 then hex 7 address
    else hex 8 address

-- the words of a block: `block`, and two digits in upper case for each byte; an empty block has
-- none
abbrev pub block_words : List ℕ → List (List ℕ)
block_words [] = []
block_words (byte ∷ bytes) = codes "block" ∷ encode_upper (byte ∷ bytes) ∷ []

-- the words that follow the name of what is shown
abbrev pub shown_field_words : Shown → List (List ℕ)
shown_field_words shown.Registers = []
shown_field_words (shown.Dac index) = hex 2 index ∷ []
shown_field_words shown.Beam = []
shown_field_words shown.Latches = []
shown_field_words (shown.Plane plane offset count) = hex 1 plane ∷ hex 4 offset ∷ decimal count ∷ []
shown_field_words shown.BiosData = []
shown_field_words shown.Cells = []

-- the words that follow a step's name
abbrev pub words_after_name : Step → List (List ℕ)
words_after_name (Out port value) = port_text port ∷ hex 2 value ∷ []
words_after_name (OutWord port value) = port_text port ∷ hex 4 value ∷ []
words_after_name (In port) = port_text port ∷ []
words_after_name (InWord port) = port_text port ∷ []
words_after_name (Put address value) = address_text address ∷ hex 2 value ∷ []
words_after_name (PutWord address value) = address_text address ∷ hex 4 value ∷ []
words_after_name (Get address) = address_text address ∷ []
words_after_name (GetWord address) = address_text address ∷ []
words_after_name (Int ax bx cx dx block) =
    (codes "ax=" ++ hex 4 ax) ∷ (codes "bx=" ++ hex 4 bx) ∷ (codes "cx=" ++ hex 4 cx) ∷ (codes "dx="
    ++ hex 4 dx) ∷ block_words block
words_after_name (Advance dots) = decimal dots ∷ []
words_after_name Frame = []
words_after_name (Show what) = shown_name what ∷ shown_field_words what

-- the words of a step
abbrev pub printed_words : Step → List (List ℕ)
printed_words step = keyword_name (keyword_of step) ∷ words_after_name step

-- a line of these words, separated by one space each, and a newline
unfoldable pub line_of_words : List (List ℕ) → List ℕ
line_of_words words = join_with_byte 0x20 words ++ 0x0A ∷ []

-- the line of a step
abbrev pub printed_line : Step → List ℕ
printed_line step = line_of_words (printed_words step)

-- the printed text of these steps
abbrev pub printed_steps : List Step → List ℕ
printed_steps steps = flat_map printed_line steps

-- the printed text of an item: the line of a step; or the line that begins a repeat, those of its
-- steps, and the line that ends it
abbrev pub printed_item : Item → List ℕ
printed_item (Once step) = printed_line step
printed_item (Repeated count steps) =
    line_of_words (codes "repeat" ∷ decimal count ∷ []) ++ (printed_steps steps
    ++ line_of_words (codes "end" ∷ []))

-- the line that gives the version of a script, unless it is 1
abbrev pub version_line : Version → List ℕ
version_line One = []
version_line Two = line_of_words (codes "version" ∷ codes "2" ∷ [])

-- the printed text of a script
abbrev pub printed_script : ScriptItems → List ℕ
printed_script script = version_line script.version ++ flat_map printed_item script.items
