pub mod Blame
pub mod Lists
pub mod Moves
