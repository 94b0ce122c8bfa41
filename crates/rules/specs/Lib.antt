pub mod Refusals
pub mod Tables
pub mod Moments
pub mod Calls
pub mod Steps
pub mod Questions
pub mod Law
pub mod Worked
