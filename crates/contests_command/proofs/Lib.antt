pub mod Lines
pub mod Read
pub mod Telling
pub mod Audits
pub mod Moved
pub mod OneEnd
pub mod Alone
