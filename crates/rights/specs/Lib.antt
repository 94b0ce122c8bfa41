pub mod Spans
pub mod Holdings
pub mod Returns
pub mod Cuts
pub mod Limited
pub mod Totals
pub mod Bounds
pub mod Worked
