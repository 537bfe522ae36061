-- What the CRT controller's registers say of every fetch address.
-- From the IBM PS/2 Hardware Interface Technical Reference, Video Subsystems, "Underline Location
-- Register" and "CRTC Mode Control Register".
use Rattle.std.specs.Prelude.{ℕ, List, if◌then◌else◌}
use Rattle.vga_crtc.specs.Fields.{is_double_word, is_byte_mode, is_address_wrap}
use Rattle.vga_dots.specs.declared.addressing.Addressing.{Addressing}

-- By how much a counter is multiplied, and which of its bits is added. Where double words or bytes
-- are addressed no bit is added: a counter has no bit 16.
unfoldable pub addressing_of : List ℕ → Addressing
addressing_of r =
    if is_double_word r then record { step = 4; bit = 16 }
    else if is_byte_mode r then record { step = 1; bit = 16 }
    else if is_address_wrap r then record { step = 2; bit = 15 }
    else record { step = 2; bit = 13 }
