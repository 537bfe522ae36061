-- When an adapter shows a screen, and what a shown screen implies.
pub mod Screens
pub mod Pixels
pub mod Any
pub mod Kinds
pub mod Reading
pub mod Steady
pub mod CutAlike
