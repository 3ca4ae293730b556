pub mod Set
pub mod Table
pub mod Form
pub mod Fitting
pub mod Verbs
