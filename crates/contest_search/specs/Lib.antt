pub mod Contest
pub mod Certificate
pub mod Budget
pub mod Found
pub mod Planned
pub mod Fewest
pub mod FewestLaws
pub mod Laws
