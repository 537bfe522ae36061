-- A frame's picture, as the caller gets it.
use Rattle.std.specs.Prelude.{◌≡◌, ◌+◌, ◌*◌, ℕ, true}
use Rattle.std.specs.Prelude.{List, length}
use Rattle.vga_card.specs.Frames.{frame}
use Rattle.vga_card.specs.Lines.{line_widths}
use Rattle.vga_card.specs.Picture.{Dot, bytes_of_dots}
use Rattle.vga_script.specs.declared.step.Step.TheVariants.{Frame}
use Rattle.vga_run.specs.declared.machine.Machine.{Machine}
use Rattle.vga_run.specs.Answer.{StepAnswer, Picture, Ragged}
use Rattle.vga_run.specs.Step.{after_step, answer_to}
use Rattle.vga_run.specs.Saved.{machine_without_unseen_dots}
use Rattle.vga_c.specs.declared.frames.Size.{Size}
use Rattle.vga_c.specs.Handle.{HandleState, machine_after_owed_dots}
use Rattle.vga_c.specs.Forms.{AreRowsInBuffer, rgb_word_of_dot}
use Rattle.vga_c.specs.Buffers.{IsCopied, room_status, buffer_with_bytes_if_room}
use Rattle.vga_c.specs.Cards.{HoldsMachine}
use Rattle.vga_c.specs.Status.{ragged_status}

-- an open card comes to the end of the frame under way
abbrev pub EndsFrame : HandleState → HandleState → Type 0
EndsFrame old new = old.is_open ≡ true → HoldsMachine new (after_step (machine_after_owed_dots old) Frame)

-- An open card comes to the end of the frame under way. It has lost the dots of that frame, which
-- no step can see any more.
abbrev pub SkipsFrame : HandleState → HandleState → ℕ → Type 0
SkipsFrame old new status = old.is_open ≡ true →
    HoldsMachine new (machine_without_unseen_dots (after_step (machine_after_owed_dots old) Frame)) × (status ≡ 0)

-- how large a picture is
abbrev pub size_of : ℕ → ℕ → Size
size_of width height = record { width = width; height = height }

-- ---- three bytes a dot

-- The output has size and bytes of a picture, or only its size if there was no room. If rows differ
-- in width, the status says so, and the output is unchanged.
abbrev pub HasDotBytes : StepAnswer → Size → Size → List ℕ → List ℕ → ℕ → Type 0
HasDotBytes (Picture width height bytes) size_old size old new status =
    (size ≡ size_of width height) × ((new ≡ buffer_with_bytes_if_room bytes old)
    × (status ≡ room_status (length bytes) (length old)))
HasDotBytes Ragged size_old size old new status =
    (size ≡ size_old) × ((new ≡ old) × (status ≡ ragged_status))
HasDotBytes reply size_old size old new status = ⊥

-- the output has the picture of an open card's frame, three bytes for each dot, or only its size if
-- there was no room
abbrev pub DrawsBytes : HandleState → Size → Size → List ℕ → List ℕ → ℕ → Type 0
DrawsBytes card size_old size old new status = card.is_open ≡ true →
    HasDotBytes (answer_to (machine_after_owed_dots card) Frame) size_old size old new status

-- ---- a word a dot

-- The output has size and words of a picture, or only its size if there was no room. If rows differ
-- in width, the status says so, and the output is unchanged.
abbrev pub HasDotWords : StepAnswer → ℕ → Size → Size → List ℕ → List ℕ → ℕ → Type 0
HasDotWords (Picture width height bytes) pitch size_old size old new status =
    (size ≡ size_of width height) × AreRowsInBuffer width height pitch
    (λ x y. rgb_word_of_dot bytes (width * y + x)) old new status
HasDotWords Ragged pitch size_old size old new status =
    (size ≡ size_old) × ((new ≡ old) × (status ≡ ragged_status))
HasDotWords reply pitch size_old size old new status = ⊥

-- the output has the picture of an open card's frame, a word for each dot, or only its size if
-- there was no room
abbrev pub DrawsWords : HandleState → ℕ → Size → Size → List ℕ → List ℕ → ℕ → Type 0
DrawsWords card pitch size_old size old new status = card.is_open ≡ true →
    HasDotWords (answer_to (machine_after_owed_dots card) Frame) pitch size_old size old new status

-- ---- line by line

-- the dots of a machine's frame under way, drawn to its end
abbrev pub frame_dots : Machine → List Dot
frame_dots m = (frame m.card).drawn

-- the output has the number of dots of each line of an open card's frame
abbrev pub CountsDotsOfLines : HandleState → List ℕ → Type 0
CountsDotsOfLines card widths = card.is_open ≡ true →
    widths ≡ line_widths (frame_dots (machine_after_owed_dots card))

-- the output has the colours of the dots, and how many bytes they are; or there was no room for
-- them
abbrev pub GivesDotBytes : HandleState → List ℕ → List ℕ → ℕ → ℕ → Type 0
GivesDotBytes card old new len status = card.is_open ≡ true →
    IsCopied (bytes_of_dots (frame_dots (machine_after_owed_dots card))) old new len status

-- ---- what is drawn until now

-- the output has the number of dots of each line that an open card has drawn until now
abbrev pub CountsDotsOfDrawnLines : HandleState → List ℕ → Type 0
CountsDotsOfDrawnLines card widths = card.is_open ≡ true →
    widths ≡ line_widths (machine_after_owed_dots card).card.drawn

-- the output has the colours of these dots, and how many bytes they are; or there was no room for
-- them
abbrev pub GivesDrawnBytes : HandleState → List ℕ → List ℕ → ℕ → ℕ → Type 0
GivesDrawnBytes card old new len status = card.is_open ≡ true →
    IsCopied (bytes_of_dots (machine_after_owed_dots card).card.drawn) old new len status
