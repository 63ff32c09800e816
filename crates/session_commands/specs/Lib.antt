pub mod Accepted
pub mod Report
pub mod Open
pub mod Audit
pub mod Laws
