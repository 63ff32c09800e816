pub mod OneRound
pub mod Rounds
