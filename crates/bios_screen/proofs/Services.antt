-- The services, function by function, and whole calls.
pub mod Cursors
pub mod Characters
pub mod Pixels
pub mod Windows
pub mod Typing
pub mod Teletypes
pub mod Strings
pub mod Attributes
pub mod Dacs
pub mod All
pub mod Calls
pub mod Tables
pub mod AnyReaders
pub mod Palette
pub mod LoadCalls
