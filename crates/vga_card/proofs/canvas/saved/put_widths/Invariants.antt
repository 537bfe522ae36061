use Rattle.std.proofs.Common.{◌≡◌, ◌+◌, ◌*◌, take}
use Rattle.std.specs.List.{flat_map}
use Rattle.vga_bits.specs.Saved.{word_bytes, IsPut}
use Rattle.vga_card.proofs.canvas.saved.put_widths.Given as goal

abbrev pub invariant-loop-line : goal.invariant-loop-line
invariant-loop-line l = record {
  put : IsPut l.initial.out l.out l.at l.next (flat_map word_bytes (take l.line l.widths));
  place : l.next ≡ l.at + 2 * l.line;
}
