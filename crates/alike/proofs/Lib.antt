-- The lemmas that this crate's proofs share.
mod Places
mod Bytes
mod Deciding
