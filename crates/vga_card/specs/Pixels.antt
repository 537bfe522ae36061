-- How large the screen shows a pixel of memory.
-- From the IBM PS/2 Hardware Interface Technical Reference, Video Subsystems, "Graphics Mode
-- Register" (256 colour mode) and "Maximum Scan Line Register".
use Rattle.std.specs.Prelude.{ℕ, ◌+◌, ◌*◌, ◌&&◌, if◌then◌else◌}
use Rattle.vga_host.specs.Graphics.{is_256_colours, is_graphics}
use Rattle.vga_host.specs.Sequencer.{is_eight_dots}
use Rattle.vga_crtc.specs.Fields.{is_double_scan, maximum_scan_line}
use Rattle.vga_card.specs.Card.{CardState}

-- how many dots of a line show the same pixel: two in 256 colours, in characters of eight dots
abbrev pub pixel_width : CardState → ℕ
pixel_width c = if is_256_colours c.host && is_eight_dots c.host then 2 else 1

-- how many scan lines show the same pixel: in graphics those of a row of characters, and each of
-- them twice under double scan
abbrev pub pixel_height : CardState → ℕ
pixel_height c = (if is_graphics c.host then maximum_scan_line c.crtc.registers + 1 else 1)
    * (if is_double_scan c.crtc.registers then 2 else 1)
