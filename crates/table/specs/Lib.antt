-- The definitions of the table.
pub mod Packing
pub mod Numbering
pub mod Layout
pub mod Table
pub mod Compiled
