pub mod Keys
pub mod Rows
pub mod Walk
pub mod Lists
pub mod Sorted
