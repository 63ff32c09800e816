pub mod Judged
pub mod Refusals
pub mod Cards
pub mod Votes
