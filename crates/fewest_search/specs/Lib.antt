pub mod Gap
pub mod Nens
pub mod Sets
pub mod Needed
pub mod InOrder
pub mod Spared
pub mod Answers
pub mod Laws
