pub mod Outcome
pub mod OpenPlurality
pub mod AuditPlurality
