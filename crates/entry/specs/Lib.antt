pub mod Entries
pub mod Tells
pub mod Messages
pub mod Located
