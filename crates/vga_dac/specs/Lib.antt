pub mod Dac
pub mod Saved
