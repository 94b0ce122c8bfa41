pub mod Meaning
pub mod Table
pub mod Letters
pub mod Reading
pub mod Unreadable
