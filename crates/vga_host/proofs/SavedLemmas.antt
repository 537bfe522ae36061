-- A host path is read back from its bytes.
use Rattle.std.proofs.Common.{◌≡◌, ℕ, ◌<◌, ap, ◌∙◌, refl, arith, List, [], ◌∷◌, ◌++◌, length, take, drop, length-append}
use Rattle.std.proofs.lemmas.List.{take_at, drop_at}
use Rattle.vga_planes.specs.Saved.{saved_memory, memory_from}
use Rattle.vga_host.specs.Host.{HostState}
use Rattle.vga_host.specs.Bounds.{IsHost}
use Rattle.vga_host.specs.Saved.{saved_latches, saved_host, past_latches, past_seq, past_gfx, past_indexes, IsSavedHost, host_from}

module _ (h : HostState) (is : IsHost h) where
  abbrev indexes : List ℕ
  indexes = h.seq_index ∷ h.gfx_index ∷ []

  latches_past : past_latches (saved_host h) ≡ h.seq ++ (h.gfx ++ (indexes ++ saved_memory h.memory))
  unfolding saved_host
  latches_past = refl

  seq_past : past_seq (saved_host h) ≡ h.gfx ++ (indexes ++ saved_memory h.memory)
  seq_past = ap (drop 5) latches_past ∙ drop_at h.seq (h.gfx ++ (indexes ++ saved_memory h.memory)) 5 is.seq_size

  gfx_past : past_gfx (saved_host h) ≡ indexes ++ saved_memory h.memory
  gfx_past = ap (drop 9) seq_past ∙ drop_at h.gfx (indexes ++ saved_memory h.memory) 9 is.gfx_size

  indexes_past : past_indexes (saved_host h) ≡ saved_memory h.memory
  indexes_past = ap (drop 2) gfx_past

  latches_are : take 4 (saved_host h) ≡ saved_latches h.latches
  unfolding saved_host
  latches_are = refl

  seq_are : take 5 (past_latches (saved_host h)) ≡ h.seq
  seq_are = ap (take 5) latches_past ∙ take_at h.seq (h.gfx ++ (indexes ++ saved_memory h.memory)) 5 is.seq_size

  gfx_are : take 9 (past_seq (saved_host h)) ≡ h.gfx
  gfx_are = ap (take 9) seq_past ∙ take_at h.gfx (indexes ++ saved_memory h.memory) 9 is.gfx_size

  long : length (saved_memory h.memory) ≡ 262144 → length (saved_host h) ≡ 262164
  unfolding saved_host
  long size = omega (
    arith,
    size,
    is.seq_size,
    is.gfx_size,
    length-append h.seq (h.gfx ++ (indexes ++ saved_memory h.memory)),
    length-append h.gfx (indexes ++ saved_memory h.memory),
  )

  pub host_is_saved : length (saved_memory h.memory) ≡ 262144 → h.seq_index < 8 → h.gfx_index < 16 → IsSavedHost (saved_host h)
  host_is_saved size few_seq few_gfx = record {
    size = long size;
    seq = rw seq_are is.seq;
    gfx = rw gfx_are is.gfx;
    seq_index = rw gfx_past few_seq;
    gfx_index = rw gfx_past few_gfx;
  }

  pub host_is_back : memory_from (saved_memory h.memory) ≡ h.memory → host_from (saved_host h) ≡ h
  unfolding host_from
  host_is_back memory = rw (latches_are, seq_are, gfx_are, gfx_past, memory)
