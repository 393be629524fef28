-- The definitions of this crate's contracts.
pub mod Instruction
pub mod Functions
