-- The palette registers, the overscan colour and blinking: function 10, subfunctions 00 to 08.
-- From the IBM PS/2 and PC BIOS Interface Technical Reference, "Interrupt 10H - Video", (AH) = 10H.
use Rattle.std.specs.Prelude.{ℕ, ◌+◌, ◌*◌, List, take, slice_index, bit_and, bit_or}
use Rattle.bios_services.specs.Plan.{Plan, Done, ◌>>=◌, ◌>>◌, out, inp}
use Rattle.bios_services.specs.Cycles.{write_attribute_register, write_attribute_registers}
use Rattle.bios_services.specs.Cycles.{reset_attribute_flip_flop, show_palette}
use Rattle.bios_services.specs.VideoRegisters.{attribute_port, attribute_read_port}
use Rattle.bios_services.specs.VideoRegisters.{palette_shown_bit}
use Rattle.bios_services.specs.VideoRegisters.{attribute_mode_control_index, all_but_blink_bit, overscan_index}

-- 00, and 01 with register 11: a register of the attribute controller is written, and the palette
-- shown again
unfoldable pub set_attribute_register_plan : ℕ → ℕ → ℕ → Plan (Unit {0})
set_attribute_register_plan port i value = do
  reset_attribute_flip_flop port
  write_attribute_register i value
  show_palette port

-- 02: the 16 palette registers and then the overscan colour are written, from a block of 17 bytes
unfoldable pub set_palette_plan : ℕ → List ℕ → Plan (Unit {0})
set_palette_plan port block = do
  reset_attribute_flip_flop port
  write_attribute_registers (take 16 block)
  write_attribute_register overscan_index (slice_index block 16)
  show_palette port

-- 03: bit 3 of the mode control register is set or cleared, which makes attributes blink or bright
unfoldable pub set_blinking_plan : ℕ → ℕ → Plan (Unit {0})
set_blinking_plan port blinking = do
  reset_attribute_flip_flop port
  out attribute_port (palette_shown_bit + attribute_mode_control_index)
  control ← inp attribute_read_port
  out attribute_port (bit_or (bit_and control all_but_blink_bit) (8 * blinking))
  show_palette port

-- register i of the attribute controller is read, which expects an index before and afterwards
unfoldable pub read_attribute_register_in_index_state_plan : ℕ → ℕ → Plan ℕ
read_attribute_register_in_index_state_plan port i = do
  out attribute_port (palette_shown_bit + i)
  value ← inp attribute_read_port
  reset_attribute_flip_flop port
  Done value

-- 07, and 08 with register 11: a register of the attribute controller is read, whatever it expects
unfoldable pub read_attribute_register_plan : ℕ → ℕ → Plan ℕ
read_attribute_register_plan port i = do
  reset_attribute_flip_flop port
  read_attribute_register_in_index_state_plan port i
