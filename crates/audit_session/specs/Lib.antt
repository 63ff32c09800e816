pub mod Going
pub mod Alike
pub mod Refusals
pub mod Laws
pub mod Examples
