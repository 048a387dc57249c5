pub mod Logs
pub mod LogLaws
