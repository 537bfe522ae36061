-- A run of offsets in each plane.
use Rattle.std.specs.Prelude.{ℕ, ◌+◌, ◌-◌, ◌%◌, Bool, nat_lt}
use Rattle.vga_host.specs.declared.offset_run.OffsetRun.{OffsetRun}

-- the offset is less than `count` after the first one, modulo 65,536
abbrev pub is_in_run : OffsetRun → ℕ → Bool
is_in_run run offset = nat_lt ((offset + (65536 - run.first)) % 65536) run.count
