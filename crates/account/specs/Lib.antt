pub mod Invoices
pub mod Settling
pub mod Debts
pub mod Bounds
pub mod Worked
