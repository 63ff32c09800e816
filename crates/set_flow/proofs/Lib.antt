pub mod Rooms
pub mod Poured
pub mod Places
pub mod Turning
pub mod Seeing
pub mod Drawn
pub mod Stuck
