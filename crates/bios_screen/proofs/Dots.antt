-- Dots of the clock, frames, and pictures.
pub mod Drawing
pub mod Colours
pub mod Frames
pub mod TextRows
pub mod TextDots
pub mod TextPictures
pub mod PixelDots
pub mod PlanarDots
pub mod PackedDots
pub mod Any
pub mod Pictures
pub mod OneDot
pub mod WholeFrames
pub mod BetweenDots
