pub mod Refusals
pub mod Choice
pub mod Quorum
pub mod History
pub mod Good
pub mod Entry
