pub mod Outcomes
pub mod Picks
pub mod Histories
pub mod Sums
pub mod Parts
pub mod Routes
