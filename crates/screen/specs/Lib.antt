-- The definitions of this crate's contracts.
pub mod Screen
pub mod Text
