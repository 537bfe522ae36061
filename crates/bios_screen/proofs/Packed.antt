-- Drawing in 256 colours, with chain 4.
pub mod Memory
pub mod Pixels
pub mod Screens
pub mod Writes
pub mod Scrolls
pub mod Cells
