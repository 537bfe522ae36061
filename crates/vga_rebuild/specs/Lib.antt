pub mod Rebuilt
pub mod Attempt
pub mod Likeness
