pub mod Lines
pub mod Texts
pub mod Examples
pub mod Back
pub mod Long
