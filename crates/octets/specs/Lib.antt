pub mod Bytes
pub mod Record
