pub mod Table
pub mod Contests
pub mod Examples
pub mod Alone
pub mod Laws
