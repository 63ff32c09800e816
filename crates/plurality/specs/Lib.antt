pub mod Plurality
pub mod Plural
pub mod Ties
pub mod Faults
pub mod RiskLimit
pub mod Laws
pub mod Examples
