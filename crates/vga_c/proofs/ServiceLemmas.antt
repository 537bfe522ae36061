-- The output of a call is the answer of the step that calls the service.
use Rattle.std.proofs.Common.{◌≡◌, ◌∙◌, true, inl, inr, ℕ, List, refl, sym, subst, Result, Ok, Err}
use Rattle.vga_card.specs.Card.{CardState}
use Rattle.vga_card.specs.Bus.{card_meaning}
use Rattle.bios_modes.specs.Bda.{BiosData}
use Rattle.bios_services.specs.Calls.{call_of}
use Rattle.bios_services.specs.Service.{CallOutcome, MayAnswer, service, allocates_memory}
use Rattle.bios_services.specs.declared.regs.Regs.{Regs}
use Rattle.bios_services.specs.declared.reply.Reply.{Reply}
use Rattle.bios_services.specs.declared.reply.ServiceError.{ServiceError}
use Rattle.bios_services.specs.declared.reply.ServiceError.TheVariants.{Refused, OutOfMemory}
use Rattle.vga_run.specs.declared.machine.Machine.{Machine}
use Rattle.vga_run.specs.declared.answer.Answer.TheVariants as answer
use Rattle.vga_run.specs.Answer.{Short, of_service}
use Rattle.vga_run.specs.Step.{after_step, answer_to, after_int10}
use Rattle.vga_c.specs.Blocks.{IsBlockEnough, regs_of as named_regs}
use Rattle.vga_c.specs.Services.{HasServiceAnswer, HasServiceOutcome, IsCallTaken, ServiceOutput, call_step}
use Rattle.vga_c.specs.declared.services.CallRegisters.{CallRegisters}
use Rattle.vga_bits.specs.declared.refusal.Refusal.{Refusal}
use Rattle.vga_bits.specs.declared.refusal.Refusal.TheVariants.{BadBlock}
use Rattle.bios_services.specs.Plan.{run}
use Rattle.bios_services.specs.Blocks.{FittingBlocksAreAccepted, block_len}

abbrev with : Machine → CardState → BiosData → Machine
with m c d = record m { card = c; bda = d }

abbrev regs_of : ServiceOutput → Regs
regs_of t = record { ax = t.registers.ax; bx = t.registers.bx; cx = t.registers.cx; dx = t.registers.dx }

abbrev Known : Machine → CardState → BiosData → ServiceOutput → ServiceOutput → ℕ → CardState × CallOutcome → Type 0
Known m c d before after status x = (with m c d ≡ with m x.0 x.1.1) × HasServiceAnswer (of_service x.1.0) before after status

pub told_service : (m : Machine) (c : CardState) (d : BiosData) (block : List ℕ) (before after : ServiceOutput) (status : ℕ) (outcome : Result Reply ServiceError)
    → MayAnswer card_meaning (service m.fonts m.bda (regs_of before) block) m.card m.bda outcome c d
    → (outcome ≡ Err OutOfMemory → allocates_memory (call_of (regs_of before)) m.bda ≡ true)
    → HasServiceOutcome outcome before after status
    → IsCallTaken m (with m c d) (call_step before.registers block) before after status
unfolding after_int10 after_step answer_to
told_service m c d block before after status (Ok reply) e is_prefix_taken told = inr (subst (Known m c d before after status) e (refl, told))
told_service m c d block before after status (Err (Refused why)) e is_prefix_taken told = inr (subst (Known m c d before after status) e (refl, told))
told_service m c d block before after status (Err OutOfMemory) e is_prefix_taken told =
    inl (told.0, (is_prefix_taken refl, (told.1, subst (λ (x : CardState). with m x d ≡ m) (sym e.0) (subst (λ (x : BiosData). with m m.card x ≡ m) (sym e.1) refl))))

-- with a block of as many bytes as it reads no call is refused for it
pub enough : FittingBlocksAreAccepted card_meaning → (m : Machine) (r : CallRegisters) (len : ℕ) → len ≡ block_len (call_of (named_regs r)) → IsBlockEnough m r len
unfolding after_int10 answer_to
enough fits m r len is block same refused =
    fits m.fonts m.bda (named_regs r) block m.card (same ∙ is) (of_refused (run card_meaning (service m.fonts m.bda (named_regs r) block) m.card).1.0 refused)
  where
    of_refused : (x : Result Reply Refusal) → of_service x ≡ Short (answer.Refused BadBlock) → x ≡ Err BadBlock
    of_refused (Ok reply) e = absurd (cc)
    of_refused (Err why) e = cc
