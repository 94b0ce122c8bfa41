pub mod Auctions
pub mod Bounds
pub mod Ledgers
pub mod Limits
pub mod Moves
pub mod Sound
pub mod Stages
pub mod Turns
