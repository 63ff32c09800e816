pub mod Once
pub mod TrueMargins
pub mod Answered
pub mod Adopting
pub mod Steps
