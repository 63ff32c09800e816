pub mod Places
pub mod Fronts
pub mod Sifted
pub mod Laws
pub mod Race
pub mod Reached
pub mod Team
pub mod Raced
