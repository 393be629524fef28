-- The definitions of this crate's contracts.
pub mod Makes
pub mod LawfulMakes
pub mod BitSets
pub mod Named
