pub mod Choice
pub mod Quorum
pub mod Transaction
pub mod Refusals
pub mod Record
