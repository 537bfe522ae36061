use Rattle.std.proofs.Common.{◌≡◌, ◌+◌, ◌-◌}
use Rattle.bios_services.specs.Plan.{run, fold}
use Rattle.bios_services.specs.CharacterReading.{shift_pixel_into_line}
use Rattle.bios_services.proofs.character_reading.read_nonzero_pixels_in_256_colours.Given as goal

-- what the dots from here on leave and answer is what all the dots do
abbrev pub invariant-loop-i : goal.invariant-loop-i
invariant-loop-i g l =
    run g.B.Bus.meaning (fold (λ i line. shift_pixel_into_line (l.address + i) line) (8 - l.i) l.i l.line) l.bus
    ≡ run g.B.Bus.meaning (fold (λ i line. shift_pixel_into_line (l.address + i) line) 8 0 0) l.fn.bus
