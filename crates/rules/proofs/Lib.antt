pub mod Granted
pub mod Soundness
pub mod Coverage
pub mod Directions
pub mod Promises
