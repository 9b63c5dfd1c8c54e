pub mod OrderAnswers
pub mod Pairs
pub mod Tested
pub mod Equal
pub mod TurnedRound
pub mod Likes
