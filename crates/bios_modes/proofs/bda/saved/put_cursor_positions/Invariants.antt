use Rattle.std.proofs.Common.{◌≡◌, ◌+◌, ◌*◌, take}
use Rattle.std.specs.List.{flat_map}
use Rattle.vga_bits.specs.Saved.{word_bytes, IsPut}
use Rattle.bios_modes.proofs.bda.saved.put_cursor_positions.Given as goal

abbrev pub invariant-loop-page : goal.invariant-loop-page
invariant-loop-page l = record {
  put : IsPut l.initial.out l.out l.at l.next (flat_map word_bytes (take l.page l.places));
  place : l.next ≡ l.at + 2 * l.page;
}
