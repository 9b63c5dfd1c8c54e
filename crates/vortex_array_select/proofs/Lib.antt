pub mod SelectedRows
pub mod TakenRows
pub mod ConstantRows
pub mod StringRows
