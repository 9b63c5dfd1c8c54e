pub mod OrderLaws
pub mod ExtremeSteps
pub mod NullRows
pub mod UnsetFirst
pub mod RowsUnder
pub mod ConstantRows
pub mod ExtremeValues
