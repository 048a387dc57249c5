pub mod Notes
pub mod Sparse
