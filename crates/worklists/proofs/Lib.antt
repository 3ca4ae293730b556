pub mod Members
pub mod InTurn
