-- What a step answers, from what a cycle does and what a frame shows.
use Rattle.std.specs.Prelude.{ℕ, List, Option, None, Some, Result, Ok, Err}
use Rattle.vga_bits.specs.declared.refusal.Refusal.{Refusal}
use Rattle.bios_services.specs.declared.regs.Regs.{Regs}
use Rattle.bios_services.specs.declared.reply.Reply.{Reply as ServiceReply}
use Rattle.bios_services.specs.Tables.{table_bytes}
use Rattle.vga_card.specs.declared.shape.Shape.{Shape}
use Rattle.vga_card.specs.declared.drawn.Drawn.{Drawn}
use Rattle.vga_card.specs.declared.drawn.Drawn.TheVariants as drawn
use Rattle.vga_card.specs.Picture.{Dot, picture_shape, bytes_of_dots}
use Rattle.vga_run.specs.declared.answer.Answer.{Answer}
use Rattle.vga_run.specs.declared.answer.Answer.TheVariants.{Done, Byte, Word, Refused}

-- the answer of a step that reads nothing
abbrev pub of_write : Result (Unit {0}) Refusal → Answer
of_write (Ok u) = Done
of_write (Err refusal) = Refused refusal

-- the answer of a step that reads a byte
abbrev pub of_byte : Result ℕ Refusal → Answer
of_byte (Ok value) = Byte value
of_byte (Err refusal) = Refused refusal

-- the answer of a step that reads a word
abbrev pub of_word : Result ℕ Refusal → Answer
of_word (Ok value) = Word value
of_word (Err refusal) = Refused refusal

-- What a step answers: a short answer (`ok`, a byte, a word, or a refusal); or the registers of a
-- BIOS call and the bytes of a table; or a picture by its width, its height, and red, green and
-- blue of each dot; or that a frame is ragged; or the lines of a dump.
pub data StepAnswer : Type 0 where
  Short : Answer → StepAnswer
  Served : Regs → List ℕ → StepAnswer
  Picture : ℕ → ℕ → List ℕ → StepAnswer
  Ragged : StepAnswer
  Dump : List ℕ → StepAnswer

-- what a BIOS call answers
abbrev pub of_service : Result ServiceReply Refusal → StepAnswer
of_service (Ok reply) = Served reply.regs (table_bytes reply.table)
of_service (Err refusal) = Short (Refused refusal)

-- a picture of this shape, or a ragged frame, which has none
abbrev pub of_shape : Option Shape → List ℕ → StepAnswer
of_shape (Some s) bytes = Picture s.width s.height bytes
of_shape None bytes = Ragged

-- what a frame answers that has drawn these dots
abbrev pub of_frame : List Dot → StepAnswer
of_frame dots = of_shape (picture_shape dots) (bytes_of_dots dots)

-- what is answered for the picture that the code gives, or for a ragged frame
abbrev pub of_drawn : Drawn → StepAnswer
of_drawn (drawn.Picture width height bytes) = Picture width height bytes.now
of_drawn drawn.Ragged = Ragged

-- what a dump answers: its dump, unless it is refused
abbrev pub of_dump : Option Refusal → List ℕ → StepAnswer
of_dump None text = Dump text
of_dump (Some why) text = Short (Refused why)
