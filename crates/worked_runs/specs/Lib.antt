pub mod Reader
pub mod ReaderRules
pub mod Lister
pub mod ListerRules
pub mod Surveyor
pub mod SurveyorRules
pub mod Drained
