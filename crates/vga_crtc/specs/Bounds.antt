-- What the CRT controller holds, whatever was written.
use Rattle.std.specs.Prelude.{◌≡◌, length}
use Rattle.vga_bits.specs.RegFile.{AreWithinMasks}
use Rattle.vga_crtc.specs.Crtc.{CrtcState}
use Rattle.vga_crtc.specs.Ports.{kept_bits}
use Rattle.vga_crtc.specs.Beam.{IsBeam}

-- 25 registers with the bits that each keeps, and a beam within its bounds
pub record IsCrtc (c : CrtcState) : Type 0 where
  pub size : length c.registers ≡ 25
  pub kept : AreWithinMasks kept_bits c.registers
  pub beam : IsBeam c.beam
