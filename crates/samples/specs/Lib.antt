pub mod OfCounts
pub mod OfLedgers
pub mod Samples
