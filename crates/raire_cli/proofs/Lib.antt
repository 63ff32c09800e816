mod Begun
mod Confirmed
pub mod Headline
pub mod Fewest
mod Accepted
pub mod Trims
pub mod Said
pub mod Adoptions
mod AdoptionsSpent
mod Unrefused
pub mod NextRounds
mod Audited
mod Opened
mod Polled
pub mod PolledEach
mod PollsComplete
mod Enough
pub mod Limited
pub mod EitherBudget
pub mod EachCommand
mod Complete
mod Counting
mod PluralOpened
mod PluralAudited
pub mod PluralLimited
mod ContestsAudited
mod ContestsRefused
mod Undecided
mod SetsJudged
mod SetsSpent
mod Rounds
mod Clauses
