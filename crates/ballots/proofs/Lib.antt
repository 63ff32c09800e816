pub mod AllOf
pub mod Chosen
pub mod Firsts
