-- A reason that holds implies its refusal.
use Rattle.std.specs.Prelude.{ℕ, ◌≡◌, Some}
use Rattle.vga_card.specs.Card.{CardState}
use Rattle.vga_card.specs.Cycles.{out_cycle, inp_cycle, put_cycle, get_cycle}
use Rattle.vga_explain.specs.declared.cycle_reason.CycleReason.{CycleReason}
use Rattle.vga_explain.specs.CycleReasons.{refusal_of, refusal_in}
use Rattle.vga_explain.specs.Ports.{ExplainsOut, ExplainsInp}
use Rattle.vga_explain.specs.Accesses.{ExplainsAccess}

-- if a reason holds of a write to a port, the write is refused as the reason says
abbrev pub ReasonsRefuseOut : Type 0
ReasonsRefuseOut = (c : CardState) (port v : ℕ) (reason : CycleReason) →
    ExplainsOut c port v reason → refusal_in (out_cycle c port v).1 ≡ Some (refusal_of reason)

-- the same of a read from a port
abbrev pub ReasonsRefuseInp : Type 0
ReasonsRefuseInp = (c : CardState) (port : ℕ) (reason : CycleReason) →
    ExplainsInp c port reason → refusal_in (inp_cycle c port).1 ≡ Some (refusal_of reason)

-- the same of a write to memory
abbrev pub ReasonsRefusePut : Type 0
ReasonsRefusePut = (c : CardState) (address v : ℕ) (reason : CycleReason) →
    ExplainsAccess c address reason → refusal_in (put_cycle c address v).1 ≡ Some (refusal_of reason)

-- the same of a read from memory
abbrev pub ReasonsRefuseGet : Type 0
ReasonsRefuseGet = (c : CardState) (address : ℕ) (reason : CycleReason) →
    ExplainsAccess c address reason → refusal_in (get_cycle c address).1 ≡ Some (refusal_of reason)
