pub mod Trims
mod OfVotes
