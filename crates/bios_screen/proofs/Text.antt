-- Text memory, and services on its cells.
pub mod Memory
pub mod Reads
pub mod Cells
pub mod NewCells
pub mod Writes
pub mod Windows
pub mod Glyphs
pub mod Loads
