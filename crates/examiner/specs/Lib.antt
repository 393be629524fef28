-- The definitions of the examiner.
pub mod History
pub mod Guarantee
pub mod Worked
pub mod Comparison
pub mod Examined
pub mod Caches
pub mod Text
