pub mod BitLaws
pub mod Contents
pub mod Flags
pub mod Views
pub mod Searches
pub mod WellFormed
pub mod Keeping
pub mod Pictures
