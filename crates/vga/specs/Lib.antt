pub mod Arguments
pub mod CommandLine
pub mod Failure
pub mod Job
pub mod Lines
pub mod Scripts
pub mod Status
