-- The definitions of this crate's contracts.
pub mod Fault
pub mod Frames
pub mod Machine
pub mod Effect
