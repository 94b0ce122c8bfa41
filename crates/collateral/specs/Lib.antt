pub mod Cash
pub mod Causes
pub mod Cover
pub mod Guarantees
pub mod Joined
pub mod Runs
pub mod Covers
