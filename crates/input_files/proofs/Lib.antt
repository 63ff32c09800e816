pub mod Judging
pub mod Going
