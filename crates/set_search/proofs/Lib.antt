pub mod Mores
pub mod Offering
pub mod Stepping
pub mod Adding
pub mod Leveling
pub mod Giving
pub mod Deciding
