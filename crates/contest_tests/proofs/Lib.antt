pub mod Bags
pub mod BestMargins
