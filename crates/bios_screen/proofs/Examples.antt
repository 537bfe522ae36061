-- Worked examples, computed.
pub mod Screens
pub mod Pictures
pub mod Pixels
pub mod Dots
