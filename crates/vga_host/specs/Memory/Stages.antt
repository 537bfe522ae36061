-- The stages of a cycle of memory: what is told of a write, and of a read, before it is done. Each
-- stage is its own definition.
use Rattle.std.specs.Prelude.{ℕ, ◌≡◌, ◌<◌}
use Rattle.std.specs.Int.{bit_at}
use Rattle.vga_bits.specs.Bits.{is_set}
use Rattle.vga_bits.specs.Four.{four_by_plane}
use Rattle.vga_bits.specs.Words.{plane_bit_in_word}
use Rattle.vga_planes.specs.Planes.{bytes_at}
use Rattle.vga_host.specs.declared.host.memory.stages.WriteStages.{WriteStages}
use Rattle.vga_host.specs.declared.host.memory.stages.ReadStages.{ReadStages}
use Rattle.vga_host.specs.Host.{HostState}
use Rattle.vga_host.specs.Graphics.{write_mode, is_read_compare}
use Rattle.vga_host.specs.Memory.Address.{window_offset, plane_offset, is_reached}
use Rattle.vga_host.specs.Memory.Write.{rotated_write_bit, data_bit_of_write, mask_bit}
use Rattle.vga_host.specs.Memory.Write.{combined_bit, written_byte}
use Rattle.vga_host.specs.Memory.Read.{picked_plane, loaded, read_byte}

-- the stages of a write of byte v to an address
pub record AreWriteStages (h : HostState) (address v : ℕ) (stages : WriteStages) : Type 0 where
  pub in_window : stages.in_window ≡ window_offset h address
  pub offset : stages.offset ≡ plane_offset h stages.in_window
  pub write_mode : stages.write_mode ≡ write_mode h
  pub rotated : (i : ℕ) → i < 8 → bit_at stages.rotated i ≡ rotated_write_bit h v i
  pub source : (p i : ℕ) → p < 4 → i < 8 →
      plane_bit_in_word stages.data p i ≡ data_bit_of_write h v p i
  pub combined : (p i : ℕ) → p < 4 → i < 8 →
      plane_bit_in_word stages.combined p i ≡ combined_bit h v p i
  pub mask : (i : ℕ) → i < 8 → bit_at stages.mask i ≡ mask_bit h v i
  pub before : stages.before ≡ bytes_at h.memory stages.offset
  pub written : stages.written ≡ four_by_plane (λ p. written_byte h v p)
  pub reached : (p : ℕ) → p < 4 → is_set stages.reached p ≡ is_reached h stages.in_window p

-- the stages of a read of an address
pub record AreReadStages (h : HostState) (address : ℕ) (stages : ReadStages) : Type 0 where
  pub in_window : stages.in_window ≡ window_offset h address
  pub offset : stages.offset ≡ plane_offset h stages.in_window
  pub loaded : stages.loaded ≡ loaded h address
  pub compare : stages.is_compare ≡ is_read_compare h
  pub plane : stages.plane ≡ picked_plane h stages.in_window
  pub value : stages.value ≡ read_byte h address
