pub mod Message
pub mod Server
pub mod Table
pub mod Tree
pub mod Step
pub mod Cluster
pub mod Words
