use Rattle.std.proofs.Common.{subst, sym, arith, replicate, List, ℕ}
use Rattle.vga_host.specs.Memory.Access.{IsAccessOfRegisters}
use Rattle.vga_host.proofs.host.Host.new.Goals as goal

pub invariant_of-result : goal.invariant_of-result
invariant_of-result c = (
  c.new-2.ensures.masks,
  c.new-3.ensures.masks,
  omega arith,
  omega arith,
  subst (λ (seq : List ℕ). IsAccessOfRegisters c.of_zero_registers.result seq c.new-3.result.values) (sym c.new-2.ensures.zeros)
      (subst (λ (gfx : List ℕ). IsAccessOfRegisters c.of_zero_registers.result (replicate 5 0) gfx) (sym c.new-3.ensures.zeros) c.of_zero_registers.ensures),
)
