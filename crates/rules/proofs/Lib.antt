-- Lemmas on the flow rules.
pub mod Classes
pub mod Cleared
pub mod Judged
