pub mod RowLemmas
pub mod StringRows
pub mod TruthRows
pub mod TruthColumns
pub mod BothValid
pub mod KnownWhere
pub mod TruthLaws
