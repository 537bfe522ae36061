-- No write to the index or to a register moves the beam.
use Rattle.std.proofs.Common.{◌≡◌, ℕ, Bool, true, false, refl}
use Rattle.vga_crtc.specs.Crtc.{CrtcState}
use Rattle.vga_crtc.specs.Ports.{after_out}

pub out_beam : (c : CrtcState) (at_data : Bool) (v : ℕ) → (after_out c at_data v).beam ≡ c.beam
unfolding after_out
out_beam c false v = refl
out_beam c true v = refl
