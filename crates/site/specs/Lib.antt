pub mod Parts
pub mod Site
