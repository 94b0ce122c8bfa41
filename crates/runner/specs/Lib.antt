pub mod Outcomes
pub mod Answers
pub mod Calls
pub mod Running
pub mod Found
pub mod Files
