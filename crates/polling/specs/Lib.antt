pub mod Polls
pub mod PollLimit
pub mod Laws
pub mod Examples
pub mod Each
pub mod EachLimit
