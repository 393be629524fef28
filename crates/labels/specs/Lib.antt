-- The definitions of this crate's contracts.
pub mod Refusal
pub mod Order
pub mod Made
