pub mod Zab
pub mod Trace
pub mod Run
