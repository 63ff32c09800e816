pub mod Lists
pub mod Outcomes
pub mod Leads
pub mod Winners
pub mod Margins
pub mod Risks
pub mod TwoCards
