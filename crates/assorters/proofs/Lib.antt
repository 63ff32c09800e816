pub mod Comparison
pub mod Numbered
pub mod LinkedMargins
