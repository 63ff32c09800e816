pub mod Rows
pub mod Spelling
pub mod Breaking
pub mod Deciding
pub mod Sound
pub mod Bytes
pub mod Manifests
pub mod Examples
