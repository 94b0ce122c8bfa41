pub mod Lay
pub mod Room
