-- What each step of a script answers, and what it leaves: a cycle of the adapter, an advance, a
-- frame, a call of the video BIOS, or a dump of the machine.
use Rattle.std.specs.Prelude.{ℕ, ◌≡◌, true, List, [], ◌∷◌, nat_le, if◌then◌else◌, Option, None, Ok}
use Rattle.std.specs.Prelude.{Err}
use Rattle.vga_bits.specs.declared.refusal.Refusal.{Refusal}
use Rattle.vga_bits.specs.declared.refusal.Refusal.TheVariants.{TooFar}
use Rattle.vga_card.specs.Card.{CardState}
use Rattle.vga_card.specs.Bus.{card_meaning}
use Rattle.vga_card.specs.Cycles.{WriteResult, out_cycle, inp_cycle, put_cycle, get_cycle}
use Rattle.vga_card.specs.WordCycles.{out_word_cycle, inp_word_cycle, put_word_cycle}
use Rattle.vga_card.specs.WordCycles.{get_word_cycle}
use Rattle.vga_card.specs.Dots.{dots, most_dots_of_an_advance}
use Rattle.vga_card.specs.Frames.{frame}
use Rattle.bios_services.specs.Plan.{run}
use Rattle.bios_services.specs.Calls.{call_of}
use Rattle.bios_services.specs.Service.{CallOutcome, service, allocates_memory}
use Rattle.vga_show.specs.Regs.{regs_text}
use Rattle.vga_show.specs.Dac.{entry_text}
use Rattle.vga_show.specs.Beam.{beam_text}
use Rattle.vga_show.specs.Latches.{latches_text}
use Rattle.vga_show.specs.Plane.{plane_text}
use Rattle.vga_show.specs.Bda.{bda_text}
use Rattle.vga_show.specs.Cells.{cells_refusal, cells_text}
use Rattle.vga_script.specs.declared.dump_range.Shown.{Shown}
use Rattle.vga_script.specs.declared.dump_range.Shown.TheVariants as shown
use Rattle.vga_script.specs.declared.step.Step.{Step}
use Rattle.vga_script.specs.declared.step.Step.TheVariants.{Out, OutWord, In, InWord, Put, PutWord}
use Rattle.vga_script.specs.declared.step.Step.TheVariants.{Get, GetWord, Int, Advance, Frame, Show}
use Rattle.vga_run.specs.declared.machine.Machine.{Machine}
use Rattle.vga_run.specs.Answer.{StepAnswer, Short, of_write, of_byte, of_word, of_service}
use Rattle.vga_run.specs.Answer.{of_frame}
use Rattle.vga_run.specs.Answer.{of_dump}

-- the dump of what a step shows
unfoldable pub dump_text : Machine → Shown → List ℕ
dump_text m shown.Registers = regs_text m.card
dump_text m (shown.Dac index) = entry_text m.card index
dump_text m shown.Beam = beam_text m.card
dump_text m shown.Latches = latches_text m.card
dump_text m (shown.Plane plane offset count) = plane_text m.card plane offset count
dump_text m shown.BiosData = bda_text m.bda
dump_text m shown.Cells = cells_text (cells_refusal m.bda.mode) m.card m.bda

-- why a dump is refused: the mode has no cells
unfoldable pub dump_refusal : Machine → Shown → Option Refusal
dump_refusal m shown.Cells = cells_refusal m.bda.mode
dump_refusal m what = None

-- a call of interrupt 10: its cycles on the adapter, what it answers, and the BIOS data afterwards
unfoldable pub after_int10 : Machine → ℕ → ℕ → ℕ → ℕ → List ℕ → CardState × CallOutcome
after_int10 m ax bx cx dx block = run card_meaning (service m.fonts m.bda
    (record { ax = ax; bx = bx; cx = cx; dx = dx }) block) m.card

-- an advance by `count` dots, which is refused if they are more than one step may take
abbrev pub advance_cycle : CardState → ℕ → WriteResult
advance_cycle card count = if nat_le count most_dots_of_an_advance then (dots count card, Ok tt)
    else (card, Err TooFar)

-- a step that allocates on this machine, which only a call of interrupt 10 does
abbrev pub AllocatesMemory : Machine → Step → Type 0
AllocatesMemory m (Int ax bx cx dx block) = allocates_memory
    (call_of (record { ax = ax; bx = bx; cx = cx; dx = dx })) m.bda ≡ true
AllocatesMemory m _ = ⊥

-- what a step answers
unfoldable pub answer_to : Machine → Step → StepAnswer
answer_to m (Out port value) = Short (of_write (out_cycle m.card port value).1)
answer_to m (OutWord port value) = Short (of_write (out_word_cycle m.card port value).1)
answer_to m (In port) = Short (of_byte (inp_cycle m.card port).1)
answer_to m (InWord port) = Short (of_word (inp_word_cycle m.card port).1)
answer_to m (Put address value) = Short (of_write (put_cycle m.card address value).1)
answer_to m (PutWord address value) = Short (of_write (put_word_cycle m.card address value).1)
answer_to m (Get address) = Short (of_byte (get_cycle m.card address).1)
answer_to m (GetWord address) = Short (of_word (get_word_cycle m.card address).1)
answer_to m (Int ax bx cx dx block) = of_service (after_int10 m ax bx cx dx block).1.0
answer_to m (Advance count) = Short (of_write (advance_cycle m.card count).1)
answer_to m Frame = of_frame (frame m.card).drawn
answer_to m (Show what) = of_dump (dump_refusal m what) (dump_text m what)

-- the machine after a step; a refused step and a dump do not change it
unfoldable pub after_step : Machine → Step → Machine
after_step m (Out port value) = record m { card = (out_cycle m.card port value).0 }
after_step m (OutWord port value) = record m { card = (out_word_cycle m.card port value).0 }
after_step m (In port) = record m { card = (inp_cycle m.card port).0 }
after_step m (InWord port) = record m { card = (inp_word_cycle m.card port).0 }
after_step m (Put address value) = record m { card = (put_cycle m.card address value).0 }
after_step m (PutWord address value) = record m { card = (put_word_cycle m.card address value).0 }
after_step m (Get address) = record m { card = (get_cycle m.card address).0 }
after_step m (GetWord address) = record m { card = (get_word_cycle m.card address).0 }
after_step m (Int ax bx cx dx block) = let after = after_int10 m ax bx cx dx block in
    record m { card = after.0; bda = after.1.1 }
after_step m (Advance count) = record m { card = (advance_cycle m.card count).0 }
after_step m Frame = record m { card = frame m.card }
after_step m (Show what) = m

-- the machine after these steps
abbrev pub after_steps : Machine → List Step → Machine
after_steps m [] = m
after_steps m (step ∷ steps) = after_steps (after_step m step) steps
