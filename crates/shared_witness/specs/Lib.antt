pub mod View
pub mod Moment
pub mod Words
pub mod Steps
pub mod Race
pub mod Shown
pub mod History
pub mod Laws
