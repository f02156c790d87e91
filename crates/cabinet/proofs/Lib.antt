pub mod Laws
pub mod Few
pub mod Checks
pub mod Runs
pub mod Held
