-- Each is a field of a register, whatever memory, latches and indexes are.
use Rattle.std.proofs.Common.{◌≡◌, ◌∙◌, ◌==◌, ap, sym, refl, ℕ, arith, true, if◌then◌else◌, nat_lt}
use Rattle.std.proofs.lemmas.Bool.Decides.{nat_tests}
use Rattle.vga_host.proofs.host.memory.access.MemoryAccess.with_graphics.Goals as goal

number_is : (a b : ℕ) → (a == b) ≡ true → a ≡ b
number_is a b is = grind (arith, nat_tests)

pub returns : goal.returns
returns c = λ seq before is memory latches i j. let was = is memory latches i j in record {
  start = c.window-start.ensures.start ∙ ap (λ m. if nat_lt m 2 then 0xA0000 else if m == 2 then 0xB0000 else 0xB8000) c.field-map.ensures;
  len = c.window-start.ensures.len ∙ ap (λ m. if m == 0 then 0x20000 else if m == 1 then 0x10000 else 0x8000) c.field-map.ensures;
  small = c.window-start.ensures.small;
  chain_four = was.chain_four;
  chain_odd_even = c.bit.ensures;
  odd_even_off = was.odd_even_off;
  map_mask = was.map_mask;
  stores_byte = λ e. c.stores_byte.ensures e _ refl;
  stores_latches = λ e. sym c.field-mode.ensures ∙ number_is c.field-mode.result 1 e;
}
