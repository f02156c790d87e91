pub mod Whole
pub mod Foreseen
