-- The definitions of this crate's contracts.
pub mod Closing
