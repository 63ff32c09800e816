pub mod Floors
pub mod Cut
pub mod Budgets
pub mod Laws
