pub mod Bids
pub mod Volume
pub mod Charge
pub mod Seal
pub mod Award
pub mod Demands
pub mod Rivals
pub mod Worked
