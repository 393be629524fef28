-- The definitions of this crate's contracts.
pub mod Lent
pub mod Page
pub mod Peek
