pub mod Kept
pub mod Laws
pub mod Begun
pub mod Parts
pub mod Stages
