pub mod Notes
pub mod Tells
pub mod Only
pub mod Output
