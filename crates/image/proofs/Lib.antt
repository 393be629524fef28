-- The lemmas that the proofs of this crate and of those above share.
pub mod Ranges
pub mod TagChecks
