pub mod Events
pub mod History
pub mod Meaning
pub mod Faults
pub mod Duties
pub mod Counter
pub mod Pair
