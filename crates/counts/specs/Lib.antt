pub mod Counting
pub mod Tallied
