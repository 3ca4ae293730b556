pub mod Prefixes
pub mod Counted
pub mod Tallies
pub mod Worlds
pub mod Questions
pub mod Inversions
pub mod Laws
