pub mod Ledger
pub mod Moves
