-- The registers of a call, byte by byte.
-- From the IBM PS/2 and PC BIOS Interface Technical Reference, "Interrupt 10H - Video": AH and AL
-- are the bytes of AX.
use Rattle.std.specs.Prelude.{ℕ, ◌+◌, ◌*◌, ◌/◌, ◌%◌}

-- the high byte of a register
abbrev pub high : ℕ → ℕ
high register = register / 256

-- the low byte of a register
abbrev pub low : ℕ → ℕ
low register = register % 256

-- a register with another high byte
abbrev pub with_high : ℕ → ℕ → ℕ
with_high register byte = 256 * byte + low register

-- a register with another low byte
abbrev pub with_low : ℕ → ℕ → ℕ
with_low register byte = 256 * high register + byte
