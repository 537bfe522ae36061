-- What the registers say of every cycle of memory.
-- From the IBM PS/2 Hardware Interface Technical Reference, Video Subsystems: "Memory Mode
-- Register", "Map Mask Register", "Graphics Mode Register" and "Miscellaneous Register".
use Rattle.std.specs.Prelude.{ℕ, ◌≡◌, ◌<◌, ◌+◌, ◌^◌, true, List}
use Rattle.vga_bits.specs.Bits.{is_set}
use Rattle.vga_bits.specs.Four.{Four}
use Rattle.vga_host.specs.declared.host.memory.access.MemoryAccess.{MemoryAccess}
use Rattle.vga_host.specs.Host.{HostState}
use Rattle.vga_host.specs.Sequencer.{is_in_map_mask, is_odd_even_off, is_chain_four}
use Rattle.vga_host.specs.Graphics.{is_chain_odd_even, write_mode}
use Rattle.vga_host.specs.Memory.Address.{window_start, window_len}
use Rattle.vga_host.specs.Memory.Write.{StoresByteUnchanged}

-- what the registers say: the window, how addresses select planes, the map mask, and whether a
-- write stores its byte unchanged, or the latches
pub record IsAccess (access : MemoryAccess) (h : HostState) : Type 0 where
  pub start : access.start ≡ window_start h
  pub len : access.len ≡ window_len h
  pub small : access.start + access.len < 2 ^ 32
  pub chain_four : access.chain_four ≡ is_chain_four h
  pub chain_odd_even : access.chain_odd_even ≡ is_chain_odd_even h
  pub odd_even_off : access.odd_even_off ≡ is_odd_even_off h
  pub map_mask : (p : ℕ) → is_set access.map_mask p ≡ is_in_map_mask h p
  pub stores_byte : access.stores_byte ≡ true → StoresByteUnchanged h
  pub stores_latches : access.stores_latches ≡ true → write_mode h ≡ 1

-- what these registers say, whatever the memory, the latches and the indexes are: the window, how
-- addresses select planes, the map mask, and what a write stores
abbrev pub IsAccessOfRegisters : MemoryAccess → List ℕ → List ℕ → Type 0
IsAccessOfRegisters access seq gfx = (memory : Four (List ℕ)) (latches : Four ℕ) (i j : ℕ) →
    (let h : HostState = record {
      memory = memory;
      latches = latches;
      seq = seq;
      gfx = gfx;
      seq_index = i;
      gfx_index = j;
    } in IsAccess access h)
