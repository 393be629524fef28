-- The lemmas that this crate's proofs share.
pub mod Sessions
