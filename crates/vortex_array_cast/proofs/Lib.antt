pub mod CastItems
pub mod CastRows
pub mod CastTypes
pub mod FilledRows
pub mod FilledWords
