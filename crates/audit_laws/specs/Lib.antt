pub mod RiskLimit
pub mod Claims
pub mod CleanDraws
pub mod Laws
pub mod Examples
