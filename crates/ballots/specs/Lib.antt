pub mod Ballots
pub mod Grammar
pub mod Faults
pub mod Casts
