pub mod Adopt
pub mod Named
