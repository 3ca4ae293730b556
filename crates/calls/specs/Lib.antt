pub mod World
pub mod Faults
pub mod Outcome
pub mod Run
pub mod Counts
