pub mod Reports
pub mod Opens
pub mod Audits
pub mod Acceptance
pub mod Checked
pub mod Held
