pub mod Cards
pub mod Calls
pub mod Laws
pub mod Examples
