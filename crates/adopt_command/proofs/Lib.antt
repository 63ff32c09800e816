pub mod Adopts
pub mod OfVotes
