pub mod Selected
pub mod SelectedParts
