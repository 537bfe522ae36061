-- Services on pixels, in sixteen colours or 256.
pub mod NewPixels
pub mod Writes
pub mod Reads
