-- The worked values.
pub mod Worked
