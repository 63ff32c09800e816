pub mod Texts
pub mod Tabulations
pub mod Ends
pub mod Risks
pub mod Claims
pub mod Examples
