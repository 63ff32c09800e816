pub mod Claimed
pub mod Faults
pub mod Stated
pub mod Views
pub mod Text
pub mod Reading
pub mod Laws
