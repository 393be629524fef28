-- The definitions of this crate's contracts.
pub mod Difference
pub mod Text
