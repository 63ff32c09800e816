pub mod Counted
pub mod Remaining
pub mod Opened
pub mod Spreading
pub mod Counts
pub mod Trimmed
pub mod Laws
pub mod Examples
