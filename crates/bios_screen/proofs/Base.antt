-- What depends on no mode: flat memories of cells, what loops leave of them, lists, plans, and the
-- registers of memory cycles.
pub mod Flat
pub mod Plans
pub mod Ports
pub mod Edits
pub mod Moves
pub mod Lists
pub mod Tests
pub mod Places
pub mod Setting
pub mod Windows
pub mod Bands
pub mod TypedPlaces
pub mod Reasons
pub mod DotLists
pub mod CellPlaces
pub mod Shifts
