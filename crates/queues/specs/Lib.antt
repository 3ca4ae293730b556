-- What the contracts of the queue cite, and the law of its kind.
pub mod Queue
pub mod Line
pub mod Fits
