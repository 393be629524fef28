-- The lemmas that this crate's proofs share.
pub mod Asked
pub mod Steps
pub mod RunsByBook
pub mod RunLoop
pub mod RunLaws
pub mod Questions
