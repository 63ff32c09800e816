pub mod Ids
pub mod Joined
pub mod Noted
