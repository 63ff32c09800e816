mod Digits
mod Places
mod Counts
mod Kept
mod Meanings
mod Needed
mod Taken
mod Rules
mod Texts
mod OneLine
pub mod Checked
