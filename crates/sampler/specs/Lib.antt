pub mod Seeds
pub mod SeedArray
pub mod Draws
pub mod Laws
