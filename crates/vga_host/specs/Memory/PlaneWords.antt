-- Moves that copy words of the planes: one move of the latches; two where odd and even addresses
-- are apart; four in a chain of four.
-- From the IBM PS/2 Hardware Interface Technical Reference, Video Subsystems: "Memory Mode
-- Register", "Graphics Mode Register" and "Miscellaneous Register".
use Rattle.std.specs.Prelude.{ℕ, ◌≡◌, ◌+◌, ◌%◌, ◌<◌, ◌≤◌, Bool, true, false, if◌then◌else◌, List}
use Rattle.std.specs.Prelude.{slice_set}
use Rattle.vga_bits.specs.Four.{Four, four_by_plane, of_plane}
use Rattle.vga_planes.specs.Planes.{byte_at, bytes_at}
use Rattle.vga_host.specs.Host.{HostState}
use Rattle.vga_host.specs.Sequencer.{is_in_map_mask, is_odd_even_off, is_chain_four}
use Rattle.vga_host.specs.Graphics.{write_mode}
use Rattle.vga_host.specs.Graphics.{is_chain_odd_even, is_odd_even_read, is_read_compare}
use Rattle.vga_host.specs.Graphics.{read_map_pair}
use Rattle.vga_host.specs.Memory.Address.{is_decoded, window_offset}
use Rattle.vga_host.specs.Memory.Write.{written_byte, StoresByteUnchanged}
use Rattle.vga_host.specs.Memory.Runs.{after_moves, after_puts}

-- a word of the planes is copied from offset a to offset b, in the planes that `reach` selects, and
-- the latches are loaded with it
abbrev pub with_word_copied : HostState → (ℕ → Bool) → ℕ → ℕ → HostState
with_word_copied h reach a b = record h {
  latches = bytes_at h.memory a;
  memory = four_by_plane (λ p. if reach p
      then slice_set (of_plane h.memory p) b (byte_at h.memory p a) else of_plane h.memory p);
}

-- n moves are decoded, and their offsets in the window follow one another, from f and from t on
pub record AreMovesDecoded (h : HostState) (misc from to n f t : ℕ) : Type 0 where
  pub read : (k : ℕ) → k < n → is_decoded h misc (from + k) ≡ true
  pub written : (k : ℕ) → k < n → is_decoded h misc (to + k) ≡ true
  pub from_place : (k : ℕ) → k < n → window_offset h (from + k) ≡ (f + k) % 65536
  pub to_place : (k : ℕ) → k < n → window_offset h (to + k) ≡ (t + k) % 65536

-- moves store the latches, and no bit of an address picks a plane
pub record MovesCopyLatches (h : HostState) : Type 0 where
  pub mode : write_mode h ≡ 1
  pub chain_four : is_chain_four h ≡ false
  pub chain_odd_even : is_chain_odd_even h ≡ false
  pub odd_even_off : is_odd_even_off h ≡ true

-- moves store bytes unchanged, the two low bits of an address pick the plane, and both offsets in
-- the window are multiples of four
pub record MovesCopyByFours (h : HostState) (f t : ℕ) : Type 0 where
  pub chain_four : is_chain_four h ≡ true
  pub stores_byte : StoresByteUnchanged h
  pub compare : is_read_compare h ≡ false
  pub from_place : f % 4 ≡ 0
  pub to_place : t % 4 ≡ 0

-- reads pick plane 0 or 1 by the lowest bit of an address
pub record ReadsPlanePairs (h : HostState) : Type 0 where
  pub apart : is_odd_even_read h ≡ true
  pub pair : read_map_pair h ≡ 0
  pub compare : is_read_compare h ≡ false

-- writes store bytes unchanged; the lowest bit of an address picks plane 0 or 1, and no other plane
-- is written
pub record WritesPlanePairs (h : HostState) : Type 0 where
  pub chain_four : is_chain_four h ≡ false
  pub chain_odd_even : is_chain_odd_even h ≡ true
  pub odd_even_off : is_odd_even_off h ≡ false
  pub plane2 : is_in_map_mask h 2 ≡ false
  pub plane3 : is_in_map_mask h 3 ≡ false
  pub stores_byte : StoresByteUnchanged h

-- moves read and write only planes 0 and 1, and go from an even offset in the window to an even one
pub record MovesCopyByPairs (h : HostState) (f t : ℕ) : Type 0 where
  pub reads : ReadsPlanePairs h
  pub writes : WritesPlanePairs h
  pub from_place : f % 2 ≡ 0
  pub to_place : t % 2 ≡ 0

-- n moves copy whole words, `per` moves for each word, whatever memory and latches hold
pub record MovesCopyWords (per : ℕ) (h : HostState) (misc from to n f t : ℕ) : Type 0 where
  pub some : 0 < per
  pub next : (i : ℕ) → i % per ≡ 0 → (i + per) % per ≡ 0
  pub moved : (m : Four (List ℕ)) (l : Four ℕ) (i : ℕ) → i % per ≡ 0 → i + per ≤ n
      → ((p : ℕ) → p < 4 → byte_at m p ((f + i) % 65536) < 256)
      → (let s : HostState = record h { memory = m; latches = l } in
      after_moves misc from to per i s
      ≡ with_word_copied s (is_in_map_mask h) ((f + i) % 65536) ((t + i) % 65536))

-- ---- fills

-- the planes that `reach` selects get the bytes of a word at offset b
abbrev pub with_word_stored : HostState → (ℕ → Bool) → ℕ → Four ℕ → HostState
with_word_stored h reach b w = record h {
  memory = four_by_plane (λ p. if reach p
      then slice_set (of_plane h.memory p) b (of_plane w p) else of_plane h.memory p);
}

-- the bytes of two words in turn: planes 0 and 2 of `even`, and planes 1 and 3 of `odd`
abbrev pub alternating_plane_bytes : Four ℕ → Four ℕ → Four ℕ
alternating_plane_bytes even odd = record {
  plane0 = even.plane0;
  plane1 = odd.plane1;
  plane2 = even.plane2;
  plane3 = odd.plane3;
}

-- the word that writes of two bytes in turn store
abbrev pub word_of_writes_in_turn : HostState → ℕ → ℕ → Four ℕ
word_of_writes_in_turn h even odd =
    alternating_plane_bytes (four_by_plane (λ p. written_byte h even p))
    (four_by_plane (λ p. written_byte h odd p))

-- n writes are decoded, and their offsets in the window follow one another, from f on
pub record AreWritesDecoded (h : HostState) (misc first n f : ℕ) : Type 0 where
  pub written : (k : ℕ) → k < n → is_decoded h misc (first + k) ≡ true
  pub in_window : (k : ℕ) → k < n → window_offset h (first + k) ≡ (f + k) % 65536

-- no bit of an address picks a plane: each write goes to all planes of the map mask
pub record AddressPicksNoPlane (h : HostState) : Type 0 where
  pub chain_four : is_chain_four h ≡ false
  pub chain_odd_even : is_chain_odd_even h ≡ false
  pub odd_even_off : is_odd_even_off h ≡ true

-- the two low bits of an address pick the plane, and writes begin at a multiple of four in the
-- window
pub record FillsByFours (h : HostState) (f : ℕ) : Type 0 where
  pub chain_four : is_chain_four h ≡ true
  pub in_window : f % 4 ≡ 0

-- the lowest bit of an address picks planes, and writes begin at an even offset in the window
pub record FillsByPairs (h : HostState) (f : ℕ) : Type 0 where
  pub chain_four : is_chain_four h ≡ false
  pub chain_odd_even : is_chain_odd_even h ≡ true
  pub odd_even_off : is_odd_even_off h ≡ false
  pub in_window : f % 2 ≡ 0

-- n writes store whole words of the planes, `per` writes for each word, whatever memory holds.
-- Write i stores byte g i. The word that begins at write i is w i.
pub record WritesStoreWords (per : ℕ) (h : HostState) (misc first n f : ℕ) (g : ℕ → ℕ)
    (w : ℕ → Four ℕ)
    : Type 0 where
  pub some : 0 < per
  pub next : (i : ℕ) → i % per ≡ 0 → (i + per) % per ≡ 0
  pub put : (m : Four (List ℕ)) (i : ℕ) → i % per ≡ 0 → i + per ≤ n
      → (let s : HostState = record h { memory = m } in
      after_puts misc first g per i s
      ≡ with_word_stored s (is_in_map_mask h) ((f + i) % 65536) (w i))

-- the bytes from number i on as a word: four of them, two that each go to two planes, or one that
-- goes to all four
abbrev pub word_of_byte_group : ℕ → (ℕ → ℕ) → ℕ → Four ℕ
word_of_byte_group per g i = four_by_plane (λ p. g (i + p % per))
