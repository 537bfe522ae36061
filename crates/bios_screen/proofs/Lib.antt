mod Prelude
pub mod Base
pub mod Modes
pub mod Shows
pub mod Text
pub mod Pixels
pub mod Planar
pub mod Packed
pub mod Dots
pub mod Services
pub mod Examples
