-- A CRT controller is read back from its bytes.
use Rattle.std.proofs.Common.{◌≡◌, ◌<◌, ap, sym, subst, arith, ◌∷◌, length, take, drop, length-append}
use Rattle.std.proofs.lemmas.List.{take_at, drop_at}
use Rattle.vga_bits.proofs.SavedLemmas.{flag_back, flag_small, word_is_back}
use Rattle.vga_crtc.specs.declared.beam.Beam.{Beam}
use Rattle.vga_crtc.specs.Crtc.{CrtcState}
use Rattle.vga_crtc.specs.Beam.{IsBeam}
use Rattle.vga_crtc.specs.Bounds.{IsCrtc}
use Rattle.vga_crtc.specs.Saved.{saved_beam, beam_from, IsSavedBeam, saved_crtc, past_registers, past_index, IsSavedCrtc, crtc_from}

beam_is_back : (b : Beam) → beam_from (saved_beam b) ≡ b
beam_is_back b = rw (word_is_back b.line, word_is_back b.character, word_is_back b.base, flag_back b.half, flag_back b.split)

beam_is_saved : (b : Beam) → IsBeam b → IsSavedBeam (saved_beam b)
beam_is_saved b is = record {
  within = subst (λ (x : Beam). IsBeam x) (sym (beam_is_back b)) is;
  half = flag_small b.half;
  split = flag_small b.split;
}

module _ (c : CrtcState) (is : IsCrtc c) where
  registers_are : take 25 (saved_crtc c) ≡ c.registers
  unfolding saved_crtc
  registers_are = take_at c.registers (c.index ∷ saved_beam c.beam) 25 is.size

  registers_past : past_registers (saved_crtc c) ≡ c.index ∷ saved_beam c.beam
  unfolding saved_crtc
  registers_past = drop_at c.registers (c.index ∷ saved_beam c.beam) 25 is.size

  index_past : past_index (saved_crtc c) ≡ saved_beam c.beam
  index_past = ap (drop 1) registers_past

  long : length (saved_crtc c) ≡ 37
  unfolding saved_crtc
  long = omega (arith, is.size, length-append c.registers (c.index ∷ saved_beam c.beam))

  pub crtc_is_saved : c.index < 32 → IsSavedCrtc (saved_crtc c)
  crtc_is_saved small = record {
    size = long;
    kept = rw registers_are is.kept;
    index = rw registers_past small;
    beam = rw index_past (beam_is_saved c.beam is.beam);
  }

  pub crtc_is_back : crtc_from (saved_crtc c) ≡ c
  unfolding crtc_from
  crtc_is_back = rw (registers_are, registers_past, beam_is_back c.beam)
