-- The host path as bytes: the four latches, the registers of the sequencer and of the graphics
-- controller, both indexes, and the display memory.
use Rattle.std.specs.Prelude.{ℕ, ◌≡◌, ◌<◌, List, [], ◌∷◌, ◌++◌, length, take, drop, slice_index}
use Rattle.vga_bits.specs.Four.{Four}
use Rattle.vga_bits.specs.RegFile.{AreWithinMasks}
use Rattle.vga_planes.specs.Saved.{saved_memory, memory_from}
use Rattle.vga_host.specs.Host.{HostState}
use Rattle.vga_host.specs.Ports.{seq_masks, gfx_masks}

-- the bytes of the latches, from plane 0
abbrev pub saved_latches : Four ℕ → List ℕ
saved_latches l = l.plane0 ∷ l.plane1 ∷ l.plane2 ∷ l.plane3 ∷ []

-- the latches that have these bytes
abbrev pub latches_from : List ℕ → Four ℕ
latches_from bytes = record {
  plane0 = slice_index bytes 0;
  plane1 = slice_index bytes 1;
  plane2 = slice_index bytes 2;
  plane3 = slice_index bytes 3;
}

-- the bytes of a host path
unfoldable pub saved_host : HostState → List ℕ
saved_host h = saved_latches h.latches ++ (h.seq ++ (h.gfx ++ ((h.seq_index ∷ h.gfx_index ∷ [])
    ++ saved_memory h.memory)))

-- the bytes after the latches
abbrev pub past_latches : List ℕ → List ℕ
past_latches bytes = drop 4 bytes

-- the bytes after the sequencer's registers
abbrev pub past_seq : List ℕ → List ℕ
past_seq bytes = drop 5 (past_latches bytes)

-- the bytes after the graphics controller's registers
abbrev pub past_gfx : List ℕ → List ℕ
past_gfx bytes = drop 9 (past_seq bytes)

-- the bytes after both indexes
abbrev pub past_indexes : List ℕ → List ℕ
past_indexes bytes = drop 2 (past_gfx bytes)

-- bytes within the bounds of a host path: registers with the bits that each keeps, and indexes of
-- three and of four bits; latches and memory may be any
pub record IsSavedHost (bytes : List ℕ) : Type 0 where
  pub size : length bytes ≡ 262164
  pub seq : AreWithinMasks seq_masks (take 5 (past_latches bytes))
  pub gfx : AreWithinMasks gfx_masks (take 9 (past_seq bytes))
  pub seq_index : slice_index (past_gfx bytes) 0 < 8
  pub gfx_index : slice_index (past_gfx bytes) 1 < 16

-- the host path that has these bytes
unfoldable pub host_from : List ℕ → HostState
host_from bytes = record {
  memory = memory_from (past_indexes bytes);
  latches = latches_from (take 4 bytes);
  seq = take 5 (past_latches bytes);
  gfx = take 9 (past_seq bytes);
  seq_index = slice_index (past_gfx bytes) 0;
  gfx_index = slice_index (past_gfx bytes) 1;
}
