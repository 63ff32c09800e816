pub mod Ties
pub mod Spent
mod Going
pub mod Searches
pub mod Tabulations
mod Stopped
pub mod Ends
mod TrialCandidates
pub mod Tried
mod TrialLaws
pub mod OfVotes
pub mod Fewest
mod FewestOfVotes
