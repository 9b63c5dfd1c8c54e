pub mod UnknownNames
pub mod Bounds
pub mod FilterCopies
pub mod SameTypes
