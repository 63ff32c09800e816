pub mod Cards
pub mod SoFar
