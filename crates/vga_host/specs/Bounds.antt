-- The bounds of everything that the host path holds, whatever was written.
use Rattle.std.specs.Prelude.{ℕ, ◌≡◌, ◌<◌, length}
use Rattle.vga_bits.specs.Four.{of_plane}
use Rattle.vga_bits.specs.RegFile.{AreWithinMasks}
use Rattle.vga_planes.specs.Planes.{IsDisplayMemory}
use Rattle.vga_host.specs.Host.{HostState}
use Rattle.vga_host.specs.Ports.{seq_masks, gfx_masks}

-- four planes of 65,536 bytes, a byte in each latch, and registers with the bits of their masks
pub record IsHost (h : HostState) : Type 0 where
  pub memory : IsDisplayMemory h.memory
  pub latches : (p : ℕ) → p < 4 → of_plane h.latches p < 256
  pub seq_size : length h.seq ≡ 5
  pub seq : AreWithinMasks seq_masks h.seq
  pub gfx_size : length h.gfx ≡ 9
  pub gfx : AreWithinMasks gfx_masks h.gfx
