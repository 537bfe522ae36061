-- What a dot sees of the host path beside the memory: four of its registers.
-- From the IBM PS/2 Hardware Interface Technical Reference, Video Subsystems, "Sequencer Registers"
-- and "Graphics Controller Registers".
use Rattle.std.specs.Prelude.{◌≡◌, slice_index}
use Rattle.vga_host.specs.Host.{HostState}

-- two host paths with the same memory, and the same in the registers that a dot sees: clocking mode
-- and character map select of the sequencer, graphics mode and miscellaneous of the graphics
-- controller
pub record DotsSeeSameRegisters (h other : HostState) : Type 0 where
  pub memory : other.memory ≡ h.memory
  pub clocking_mode : slice_index other.seq 1 ≡ slice_index h.seq 1
  pub character_map_select : slice_index other.seq 3 ≡ slice_index h.seq 3
  pub graphics_mode : slice_index other.gfx 5 ≡ slice_index h.gfx 5
  pub miscellaneous : slice_index other.gfx 6 ≡ slice_index h.gfx 6
