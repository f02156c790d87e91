pub mod Act
pub mod Events
pub mod Turns
