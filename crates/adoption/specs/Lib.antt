pub mod Adopted
pub mod Answers
pub mod Laws
