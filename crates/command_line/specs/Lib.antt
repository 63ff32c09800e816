pub mod Words
pub mod Table
pub mod Values
pub mod Pieces
pub mod Views
pub mod Line
pub mod Laws
pub mod OneForm
