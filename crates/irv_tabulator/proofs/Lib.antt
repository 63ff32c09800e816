pub mod Progress
pub mod Leasts
pub mod Counts
pub mod Telling
