pub mod KeysLemmas
pub mod Finds
pub mod Walks
pub mod Turns
pub mod Listed
pub mod Sorts
