pub mod Race
pub mod Laws
pub mod Steps
pub mod State
