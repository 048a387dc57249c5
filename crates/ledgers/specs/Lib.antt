pub mod Tables
pub mod TableLaws
pub mod Meaning
pub mod ChainLaws
pub mod Answers
pub mod Bottoms
pub mod Rows
pub mod BottomLaws
