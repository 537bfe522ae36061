-- Why data for a register behind an index are refused.
-- From the IBM PS/2 Hardware Interface Technical Reference, Video Subsystems; which values are
-- refused is this adapter's profile.
use Rattle.std.specs.Prelude.{ℕ, ◌≡◌, ◌<◌, ◌||◌, nat_lt, Bool, true, false, Option, None, Some}
use Rattle.std.specs.Prelude.{if◌then◌else◌}
use Rattle.vga_bits.specs.Bits.{is_set, field}
use Rattle.vga_bits.specs.declared.refusal.Refusal.{Refusal}
use Rattle.vga_bits.specs.declared.refusal.Refusal.TheVariants.{NotInProfile}
use Rattle.vga_host.specs.Ports.{is_refused_sequencer_index, is_refused_graphics_write}
use Rattle.vga_crtc.specs.Ports.{is_outside_profile}
use Rattle.vga_explain.specs.declared.group.Group.{Group}
use Rattle.vga_explain.specs.declared.group.Group.TheVariants.{Sequencer, GraphicsController}
use Rattle.vga_explain.specs.declared.group.Group.TheVariants.{CrtController, AttributeController}
use Rattle.vga_explain.specs.declared.cycle_reason.CycleReason.{CycleReason}
use Rattle.vga_explain.specs.declared.cycle_reason.CycleReason.TheVariants.{NoRegister, BitLeftOut}
use Rattle.vga_explain.specs.declared.cycle_reason.CycleReason.TheVariants.{FieldLeftOut}
use Rattle.vga_explain.specs.CycleReasons.{last_register}

-- whether a write of v to a group's register i is refused
abbrev pub is_data_refused : Group → ℕ → ℕ → Bool
is_data_refused Sequencer i v = is_refused_sequencer_index i
is_data_refused GraphicsController i v = is_refused_graphics_write i v
is_data_refused CrtController i v = nat_lt 0x18 i || is_outside_profile i v
is_data_refused AttributeController i v = nat_lt 20 i

-- the refusal of such a write, if it is refused
abbrev pub data_refusal : Group → ℕ → ℕ → Option Refusal
data_refusal group i v = if is_data_refused group i v then Some NotInProfile else None

-- the refusal of a read of a group's register i, if it is refused
abbrev pub read_refusal : Group → ℕ → Option Refusal
read_refusal group i = if nat_lt (last_register group) i then Some NotInProfile else None

-- a group has no register i
abbrev pub IsNoRegister : Group → ℕ → CycleReason → Type 0
IsNoRegister group i (NoRegister g index last) =
    (g ≡ group) × (index ≡ i) × (last ≡ last_register group) × (last < index)
IsNoRegister group i other = ⊥

-- Why a write of v to a group's register i is refused: the group has no such register; or v is
-- refused where a bit of it is 1, and every byte where that bit is 0 is taken; or v is refused where
-- bits of it have not the value that is wanted, and every byte where they have it is taken.
abbrev pub ExplainsData : Group → ℕ → ℕ → CycleReason → Type 0
ExplainsData group i v (NoRegister g index last) =
    (g ≡ group) × (index ≡ i) × (last ≡ last_register group) × (last < index)
ExplainsData group i v (BitLeftOut g index bit value) =
    (g ≡ group) × (index ≡ i) × (value ≡ v) × (is_set v bit ≡ true)
    × (is_data_refused group i v ≡ true)
    × ((w : ℕ) → is_set w bit ≡ false → is_data_refused group i w ≡ false)
ExplainsData group i v (FieldLeftOut g index high low wanted) =
    (g ≡ group) × (index ≡ i) × ¬ (field v high low ≡ wanted)
    × (is_data_refused group i v ≡ true)
    × ((w : ℕ) → field w high low ≡ wanted → is_data_refused group i w ≡ false)
ExplainsData group i v other = ⊥
