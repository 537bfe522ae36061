-- The rows of the mode table, what their registers imply, and what a clearing mode set leaves.
pub mod Frames
pub mod TextModes
pub mod PixelModes
pub mod AnyModes
pub mod Registers
pub mod Entries
pub mod Fresh
pub mod TextFresh
pub mod PixelFresh
pub mod AnyFresh
