-- Lemmas on the lines of the rule cache.
pub mod SameLines
