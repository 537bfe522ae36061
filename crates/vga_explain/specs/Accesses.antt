-- Why display memory does not answer at an address.
-- From the IBM PS/2 Hardware Interface Technical Reference, Video Subsystems: "Miscellaneous Output
-- Register" (enable RAM) and "Miscellaneous Register" (memory map).
use Rattle.std.specs.Prelude.{ℕ, ◌≡◌, ◌+◌, ◌&&◌, nat_le, true, false}
use Rattle.vga_host.specs.Graphics.{memory_map}
use Rattle.vga_host.specs.Memory.Address.{is_memory_enabled, window_start, window_len}
use Rattle.vga_card.specs.Card.{CardState}
use Rattle.vga_explain.specs.declared.cycle_reason.CycleReason.{CycleReason}
use Rattle.vga_explain.specs.declared.cycle_reason.CycleReason.TheVariants.{MemoryOff}
use Rattle.vga_explain.specs.declared.cycle_reason.CycleReason.TheVariants.{OutsideWindow}

-- Why display memory does not answer at an address: it answers nowhere; or it answers from `first`
-- to `last`, and the address is none of these.
abbrev pub ExplainsAccess : CardState → ℕ → CycleReason → Type 0
ExplainsAccess c address (MemoryOff a) = (a ≡ address) × (is_memory_enabled c.misc ≡ false)
ExplainsAccess c address (OutsideWindow a map first last) =
    (a ≡ address) × (map ≡ memory_map c.host) × (first ≡ window_start c.host)
    × (last + 1 ≡ window_start c.host + window_len c.host)
    × (is_memory_enabled c.misc ≡ true) × ((nat_le first address && nat_le address last) ≡ false)
ExplainsAccess c address other = ⊥
