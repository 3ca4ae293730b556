pub mod Keeps
pub mod Books
pub mod Asks
pub mod Writes
pub mod Opens
pub mod Stores
pub mod Runs
