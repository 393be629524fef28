-- The lemmas that this crate's proofs share.
pub mod FrameLists
