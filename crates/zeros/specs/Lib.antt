pub mod ZeroTables
pub mod ZeroLaws
