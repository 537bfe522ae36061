-- Scrolling a window of a page up or down.
-- From the IBM PS/2 and PC BIOS Interface Technical Reference, "Interrupt 10H - Video", (AH) = 06H
-- and 07H.
use Rattle.std.specs.Prelude.{ℕ, ◌+◌, ◌-◌, ◌==◌, ◌≤◌, ◌&&◌, ◌||◌, ◌<◌, nat_lt, if◌then◌else◌, min}
use Rattle.std.specs.Prelude.{Option, Some, None}
use Rattle.bios_modes.specs.Bda.{BiosData}
use Rattle.bios_services.specs.declared.direction.Direction.{Direction}
use Rattle.bios_services.specs.declared.direction.Direction.TheVariants.{Up}
use Rattle.bios_services.specs.declared.scroll.Scroll.{Scroll}
use Rattle.bios_services.specs.declared.scroll.Window.{Window}
use Rattle.bios_services.specs.Plan.{Plan, Done}
use Rattle.bios_services.specs.Bands.{band_of, scroll_rows}

-- the part of a scroll's window that lies on a page of these rows and columns, if it has a cell
abbrev pub window_clipped_to_page : ℕ → ℕ → Scroll → Option Window
window_clipped_to_page rows columns s =
    let bottom = min (s.bottom + 1) rows in
    let right = min (s.right + 1) columns in
    if nat_lt s.top bottom && nat_lt s.left right
    then Some (record {
      top = s.top;
      height = bottom - s.top;
      left = s.left;
      width = right - s.left;
    })
    else None

-- all the rows and columns of a page
abbrev pub whole_page : ℕ → ℕ → Window
whole_page rows columns = record { top = 0; height = rows; left = 0; width = columns }

-- a window lies on a page of these rows and columns, and has a row
pub record IsOnPage (rows columns : ℕ) (window : Window) : Type 0 where
  pub below : window.top + window.height ≤ rows
  pub after : window.left + window.width ≤ columns
  pub some : 0 < window.height

-- by how many rows a window goes up or down: by all of them for 0 or for more than it has
abbrev pub scroll_distance : Window → ℕ → ℕ
scroll_distance window asked =
    if (asked == 0) || nat_lt window.height asked then window.height else asked

-- a window of a page goes up or down by n rows, and the n rows that it leaves are filled
abbrev pub scroll_window_plan : BiosData → ℕ → Window → Direction → ℕ → ℕ → Plan (Unit {0})
scroll_window_plan d page window direction n colour =
    scroll_rows (band_of d page window.left window.width) direction window.top window.height n
    colour

-- a page goes up by a row
abbrev pub scroll_page_up_by_a_row_plan : BiosData → ℕ → ℕ → Plan (Unit {0})
scroll_page_up_by_a_row_plan d page colour =
    scroll_window_plan d page (whole_page (d.last_row + 1) d.columns) Up 1 colour

-- a window of the active page goes up or down; without a window nothing happens
abbrev pub scroll_window_if_any : BiosData → Scroll → Direction → Option Window → Plan (Unit {0})
scroll_window_if_any d s direction None = Done tt
scroll_window_if_any d s direction (Some window) =
    scroll_window_plan d d.page window direction (scroll_distance window s.lines) s.fill

-- 06 and 07: the window that a call names goes up or down on the active page
unfoldable pub scroll_plan : BiosData → Scroll → Direction → Plan (Unit {0})
scroll_plan d s direction =
    scroll_window_if_any d s direction (window_clipped_to_page (d.last_row + 1) d.columns s)
