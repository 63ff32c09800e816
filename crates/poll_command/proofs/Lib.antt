pub mod Covering
pub mod Ending
pub mod Answered
pub mod Polls
pub mod Polled
pub mod EndLines
pub mod EachAnswered
pub mod EachPolls
