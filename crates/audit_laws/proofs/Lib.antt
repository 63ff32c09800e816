pub mod FalseClaims
pub mod Published
pub mod Possible
pub mod CleanDraws
pub mod TwoCards
