-- The lemmas that this crate's proofs share.
mod Chunks
