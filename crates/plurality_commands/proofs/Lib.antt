pub mod Counted
pub mod Opens
pub mod Audits
