pub mod OneCard
