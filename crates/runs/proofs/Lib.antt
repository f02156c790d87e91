pub mod Series
pub mod Only
