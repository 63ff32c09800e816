pub mod Scripts
pub mod Statuses
pub mod Begun
pub mod Steps
pub mod Faults
pub mod Ended
pub mod Clauses
pub mod AmongKinds
pub mod ConfirmedKinds
mod ReadFiles
