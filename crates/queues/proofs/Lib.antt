-- Lemmas by which the calls of the queue meet what they owe.
pub mod Calls
pub mod Kept
pub mod Lines
pub mod Nexts
pub mod Takings
