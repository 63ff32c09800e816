pub mod Tails
pub mod Offered
pub mod Children
pub mod Weakest
pub mod Limited
pub mod Compared
