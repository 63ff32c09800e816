pub mod Rooms
pub mod Kept
pub mod Seen
pub mod Searched
