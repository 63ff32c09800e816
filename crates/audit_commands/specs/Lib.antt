pub mod Sample
pub mod Plan
