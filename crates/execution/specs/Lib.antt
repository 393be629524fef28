-- The definitions of this crate's contracts.
pub mod Step
pub mod Run
pub mod RunLaws
