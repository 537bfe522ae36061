-- A frame's picture as numbers of colours.
use Rattle.std.specs.Prelude.{◌≡◌, ◌*◌, ◌<◌, ◌≤◌, ◌⊎◌, ℕ, List, length, slice_index, true}
use Rattle.vga_script.specs.declared.step.Step.TheVariants.{Frame}
use Rattle.vga_run.specs.declared.machine.Machine.{Machine}
use Rattle.vga_run.specs.Answer.{StepAnswer, Picture, Ragged}
use Rattle.vga_run.specs.Step.{after_step, answer_to}
use Rattle.vga_c.specs.declared.frames.Size.{Size}
use Rattle.vga_c.specs.declared.palette.Palette.{Palette}
use Rattle.vga_c.specs.Forms.{rgb_word_of_dot}
use Rattle.vga_c.specs.Frames.{size_of}
use Rattle.vga_c.specs.Handle.{HandleState, machine_after_owed_dots}
use Rattle.vga_c.specs.Palette.{AreDotsNumbered, HaveTooManyColours}
use Rattle.vga_c.specs.Status.{many_colours_status, no_room_status, out_of_memory_status}
use Rattle.vga_c.specs.Status.{ragged_status}

-- what the caller gets: the size, the palette, and the numbers of the dots' colours
pub record IndexedOutput : Type 0 where
  pub size : Size
  pub palette : Palette
  pub numbers : List ℕ

-- the three of them together
abbrev pub indexed_output : Size → Palette → List ℕ → IndexedOutput
indexed_output size palette numbers = record { size = size; palette = palette; numbers = numbers }

-- the buffer has room for the numbers: it has them, with their palette, or the status says that the
-- dots have too many colours, and the palette is unchanged
pub record HasNumbersOrTooMany (count : ℕ) (colour : ℕ → ℕ) (before after : IndexedOutput)
    (status : ℕ) : Type 0 where
  pub outcome : ((status ≡ 0) × AreDotsNumbered count colour after.palette after.numbers)
      ⊎ ((status ≡ many_colours_status) × ((after.palette ≡ before.palette)
      × HaveTooManyColours count colour))
  pub behind : (i : ℕ) → count ≤ i → slice_index after.numbers i ≡ slice_index before.numbers i
  pub len : length after.numbers ≡ length before.numbers

-- The output has the size of a picture, the number of each dot's colour, and the palette, if there
-- is room and the colours are few. If rows differ in width, the status says so, and the output is
-- unchanged.
abbrev pub HasColourNumbers : StepAnswer → IndexedOutput → IndexedOutput → ℕ → Type 0
HasColourNumbers (Picture width height bytes) before after status =
    (after.size ≡ size_of width height)
    × ((length before.numbers < width * height → (after.palette ≡ before.palette)
    × ((after.numbers ≡ before.numbers) × (status ≡ no_room_status)))
    × (width * height ≤ length before.numbers →
    HasNumbersOrTooMany (width * height) (rgb_word_of_dot bytes) before after status))
HasColourNumbers Ragged before after status = (after ≡ before) × (status ≡ ragged_status)
HasColourNumbers reply before after status = ⊥

-- a machine comes to the end of the frame under way, and the output has its picture; or an
-- allocation failed, and nothing has changed
abbrev pub NumbersFrame : Machine → Machine → IndexedOutput → IndexedOutput → ℕ → Type 0
NumbersFrame old new before after status =
    ((new ≡ after_step old Frame) × HasColourNumbers (answer_to old Frame) before after status)
    ⊎ ((new ≡ old) × ((after ≡ before) × (status ≡ out_of_memory_status)))

-- an open card's machine does so
abbrev pub OpenCardNumbersFrame : HandleState → HandleState → IndexedOutput → IndexedOutput → ℕ →
    Type 0
OpenCardNumbersFrame old new before after status = old.is_open ≡ true → (new.is_open ≡ true)
    × NumbersFrame (machine_after_owed_dots old) (machine_after_owed_dots new) before after status
