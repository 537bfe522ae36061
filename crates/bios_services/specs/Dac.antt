-- The colours of the DAC and its mask: function 10, subfunctions 10 to 19.
-- From the IBM PS/2 and PC BIOS Interface Technical Reference, "Interrupt 10H - Video", (AH) = 10H.
use Rattle.std.specs.Prelude.{ℕ, List, length, slice_index}
use Rattle.bios_services.specs.Plan.{Plan, ◌>>◌, out, each}
use Rattle.bios_services.specs.VideoRegisters.{dac_write_index_port, dac_data_port}

-- 10: red, green and blue of an entry are written
unfoldable pub set_entry_plan : ℕ → ℕ → ℕ → ℕ → Plan (Unit {0})
set_entry_plan entry red green blue = do
  out dac_write_index_port entry
  out dac_data_port red
  out dac_data_port green
  out dac_data_port blue

-- the bytes of a block go to the DAC's data, one after another
unfoldable pub components_plan : List ℕ → Plan (Unit {0})
components_plan block = each (λ i. out dac_data_port (slice_index block i)) (length block) 0

-- 12: red, green and blue of the entries from `first` on are written, from a block
unfoldable pub set_entries_plan : ℕ → List ℕ → Plan (Unit {0})
set_entries_plan first block = do
  out dac_write_index_port first
  components_plan block
