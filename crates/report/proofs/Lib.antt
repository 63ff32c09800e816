pub mod Lists
pub mod Lines
pub mod Claims
pub mod Digits
