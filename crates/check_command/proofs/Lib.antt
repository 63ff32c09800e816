pub mod Checks
pub mod OfVotes
