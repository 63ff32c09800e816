pub mod SeenBy
pub mod Ends
pub mod Refusals
pub mod Laws
