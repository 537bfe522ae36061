-- The display memory as the processor reaches it: addresses, reads, writes, and runs of them.
pub mod Access
pub mod Address
pub mod PlaneWords
pub mod Read
pub mod Runs
pub mod Stages
pub mod Write
