-- The graphics controller's part stays.
use Rattle.std.proofs.Common.{ap}
use Rattle.vga_bits.specs.Bits.{is_set}
use Rattle.vga_host.proofs.host.memory.access.MemoryAccess.with_sequencer.Goals as goal

pub returns : goal.returns
returns c = λ before gfx is memory latches i j. let was = is memory latches i j in record {
  start = was.start;
  len = was.len;
  small = was.small;
  chain_four = c.bit.ensures;
  chain_odd_even = was.chain_odd_even;
  odd_even_off = c.bit-2.ensures;
  map_mask = λ p. ap (λ r. is_set r p) c.read.ensures;
  stores_byte = λ e. let plain = was.stores_byte e in record { mode = plain.mode; rotate = plain.rotate; function = plain.function; own = plain.own; mask = plain.mask };
  stores_latches = was.stores_latches;
}
