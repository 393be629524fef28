-- The definitions of this crate's contracts.
pub mod Layout
pub mod Entry
pub mod Load
