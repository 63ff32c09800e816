pub mod Lines
pub mod Cards
pub mod Marks
pub mod Confirmed
pub mod Rounds
pub mod Needs
