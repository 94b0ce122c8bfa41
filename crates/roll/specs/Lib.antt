pub mod Rows
pub mod Sums
pub mod Rolls
pub mod Spending
pub mod Views
pub mod Tests
