pub mod Suffixes
pub mod Places
pub mod Offers
pub mod Scores
pub mod Compared
