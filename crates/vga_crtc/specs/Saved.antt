-- The CRT controller as bytes: the registers in their order, the index, and the beam: the number of
-- the frame, line and character, which are words, the dot, the counter of the line's first
-- character, which is a word, the scan line, and the two flags.
use Rattle.std.specs.Prelude.{ℕ, ◌≡◌, ◌<◌, List, [], ◌∷◌, ◌++◌, length, take, drop, slice_index}
use Rattle.vga_bits.specs.RegFile.{AreWithinMasks}
use Rattle.vga_bits.specs.Saved.{word_bytes, word_at, flag_byte, flag_at}
use Rattle.vga_crtc.specs.declared.beam.Beam.{Beam}
use Rattle.vga_crtc.specs.Crtc.{CrtcState}
use Rattle.vga_crtc.specs.Ports.{kept_bits}
use Rattle.vga_crtc.specs.Beam.{IsBeam}

-- the bytes of a beam
abbrev pub saved_beam : Beam → List ℕ
saved_beam b =
    (b.frame ∷ []) ++ (word_bytes b.line ++ (word_bytes b.character ++ ((b.dot ∷ [])
    ++ (word_bytes b.base ++ (b.scan ∷ flag_byte b.half ∷ flag_byte b.split ∷ [])))))

-- the beam that has these bytes
abbrev pub beam_from : List ℕ → Beam
beam_from bytes = record {
  frame = slice_index bytes 0;
  line = word_at bytes 1;
  character = word_at bytes 3;
  dot = slice_index bytes 5;
  base = word_at bytes 6;
  scan = slice_index bytes 8;
  half = flag_at bytes 9;
  split = flag_at bytes 10;
}

-- bytes of a beam: it is within its bounds, and the flags are 0 or 1
pub record IsSavedBeam (bytes : List ℕ) : Type 0 where
  pub within : IsBeam (beam_from bytes)
  pub half : slice_index bytes 9 < 2
  pub split : slice_index bytes 10 < 2

-- the bytes of a CRT controller
unfoldable pub saved_crtc : CrtcState → List ℕ
saved_crtc c = c.registers ++ (c.index ∷ saved_beam c.beam)

-- the bytes after the registers
abbrev pub past_registers : List ℕ → List ℕ
past_registers bytes = drop 25 bytes

-- the bytes after the index
abbrev pub past_index : List ℕ → List ℕ
past_index bytes = drop 1 (past_registers bytes)

-- bytes within the bounds of a CRT controller: 25 registers with the bits that each keeps, an index
-- of five bits, and a beam
pub record IsSavedCrtc (bytes : List ℕ) : Type 0 where
  pub size : length bytes ≡ 37
  pub kept : AreWithinMasks kept_bits (take 25 bytes)
  pub index : slice_index (past_registers bytes) 0 < 32
  pub beam : IsSavedBeam (past_index bytes)

-- the CRT controller that has these bytes
unfoldable pub crtc_from : List ℕ → CrtcState
crtc_from bytes = record {
  registers = take 25 bytes;
  index = slice_index (past_registers bytes) 0;
  beam = beam_from (past_index bytes);
}
