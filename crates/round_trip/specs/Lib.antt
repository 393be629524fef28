-- The definitions of this crate's contract.
pub mod Opens
