pub mod Sides
pub mod Longer
pub mod Loops
pub mod Calls
pub mod Orders
pub mod Lives
pub mod Members
