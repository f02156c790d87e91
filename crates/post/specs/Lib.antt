pub mod Posts
pub mod Room
