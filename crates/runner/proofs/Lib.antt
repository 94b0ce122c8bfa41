pub mod Room
pub mod Performing
pub mod Tasks
pub mod Filing
