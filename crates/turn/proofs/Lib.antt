pub mod Laws
pub mod Enact
pub mod Sends
pub mod Fate
pub mod Fares
pub mod Turning
pub mod Outcomes
pub mod Only
