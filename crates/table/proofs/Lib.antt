-- Lemmas on rows.
pub mod RowCounts
pub mod RowNumbers
pub mod PackedRows
pub mod CompiledRows
