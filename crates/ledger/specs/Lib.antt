pub mod Delivered
pub mod Records
