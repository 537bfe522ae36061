-- The CRT controller's data port.
use Rattle.std.proofs.Common.{◌≡◌, ◌+◌, ℕ, Bool, true, false, Some, refl}
use Rattle.vga_bits.specs.Bits.{is_set}
use Rattle.vga_card.specs.declared.port.Port.TheVariants.{CrtcData}
use Rattle.vga_card.specs.Port.{port_of, crtc_port, crtc_port_of}

by_bit : (misc : ℕ) (b : Bool) → is_set misc 0 ≡ b → port_of misc (crtc_port misc + 1) ≡ Some CrtcData
unfolding port_of crtc_port_of
by_bit misc true colour = rw colour refl
by_bit misc false monochrome = rw monochrome refl

-- the port after that of its index reaches its data
pub crtc_data : (misc : ℕ) → port_of misc (crtc_port misc + 1) ≡ Some CrtcData
crtc_data misc = by_bit misc (is_set misc 0) refl
