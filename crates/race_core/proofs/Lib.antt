pub mod Counts
pub mod Reached
pub mod Shown
pub mod Fields
pub mod Sound
pub mod Counted
pub mod Runs
