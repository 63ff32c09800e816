pub mod SeedBytes
pub mod Numbers
pub mod DrawTexts
pub mod SeedText
