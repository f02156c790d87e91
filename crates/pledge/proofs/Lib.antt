pub mod Settled
pub mod OneLedger
pub mod Named
pub mod Motion
pub mod Calming
pub mod Fresh
pub mod Only
