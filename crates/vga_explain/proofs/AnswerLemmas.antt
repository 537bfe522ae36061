-- The refusal in what a step answers is that of its cycle or of its call.
use Rattle.std.proofs.Common.{◌≡◌, ◌∙◌, ℕ, List, length, Result, Ok, Err, refl}
use Rattle.vga_bits.specs.declared.refusal.Refusal.{Refusal}
use Rattle.vga_card.specs.Bus.{card_meaning}
use Rattle.vga_card.specs.WordCycles.{out_word_cycle, put_word_cycle}
use Rattle.bios_services.specs.declared.regs.Regs.{Regs}
use Rattle.bios_services.specs.declared.reply.Reply.{Reply}
use Rattle.bios_services.specs.Calls.{call_of}
use Rattle.bios_services.specs.CallReasons.{call_refusal, refusal_in_answer as refusal_in_reply}
use Rattle.bios_services.specs.Plan.{run}
use Rattle.bios_services.specs.Service.{service}
use Rattle.bios_services.proofs.RefusedLemmas.{ends_by_refusal}
use Rattle.vga_script.specs.declared.step.Step.TheVariants.{OutWord, PutWord, Int}
use Rattle.vga_run.specs.declared.machine.Machine.{Machine}
use Rattle.vga_run.specs.Answer.{Short, of_write, of_service}
use Rattle.vga_run.specs.Step.{answer_to, after_int10}
use Rattle.vga_explain.specs.CycleReasons.{refusal_in}
use Rattle.vga_explain.specs.Refused.{refusal_in_answer}

written : (r : Result (Unit {0}) Refusal) → refusal_in_answer (Short (of_write r)) ≡ refusal_in r
written (Ok done) = refl
written (Err refusal) = refl

served : (r : Result Reply Refusal) → refusal_in_answer (of_service r) ≡ refusal_in_reply r
served (Ok reply) = refl
served (Err refusal) = refl

-- that of a word that is written to a port
pub out_word_answer : (m : Machine) (port value : ℕ) →
    refusal_in_answer (answer_to m (OutWord port value)) ≡ refusal_in (out_word_cycle m.card port value).1
unfolding answer_to
out_word_answer m port value = written (out_word_cycle m.card port value).1

-- that of a word that is written to memory
pub put_word_answer : (m : Machine) (address value : ℕ) →
    refusal_in_answer (answer_to m (PutWord address value)) ≡ refusal_in (put_word_cycle m.card address value).1
unfolding answer_to
put_word_answer m address value = written (put_word_cycle m.card address value).1

-- that of a call of the video BIOS
pub int_answer : (m : Machine) (r : Regs) (block : List ℕ) →
    refusal_in_answer (answer_to m (Int r.ax r.bx r.cx r.dx block)) ≡ call_refusal (call_of r) m.bda (length block)
unfolding answer_to after_int10
int_answer m r block =
    served (run card_meaning (service m.fonts m.bda r block) m.card).1.0
    ∙ ends_by_refusal card_meaning m.fonts m.bda r block m.card
