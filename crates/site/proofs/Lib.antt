pub mod Seats
pub mod Goods
pub mod Alike
