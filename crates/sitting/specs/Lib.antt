-- The definitions of this crate's contracts.
pub mod State
pub mod Sitting
pub mod Open
pub mod Run
