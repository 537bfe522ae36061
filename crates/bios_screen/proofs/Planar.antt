-- Drawing in sixteen colours, through the graphics controller.
pub mod Reads
pub mod Settings
pub mod Bits
pub mod Screens
pub mod Dots
pub mod Characters
pub mod Writes
pub mod Windows
pub mod Scrolls
pub mod Cells
