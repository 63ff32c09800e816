pub mod Sample
pub mod Plan
pub mod Session
pub mod Laws
pub mod Examples
