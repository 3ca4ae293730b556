pub mod Book
pub mod Held
pub mod Attempt
pub mod Ledgers
pub mod Views
