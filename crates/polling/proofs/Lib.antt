pub mod ValueCounts
pub mod Limit
pub mod IsCounted
pub mod TwoCards
mod Ranges
mod Ended
mod EachPolled
mod FirstUnseen
pub mod EachLimit
