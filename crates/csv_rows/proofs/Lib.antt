pub mod Reading
pub mod Dropped
pub mod Cuts
pub mod Blanks
pub mod Ends
pub mod Numbers
pub mod Plain
pub mod Single
pub mod Marks
pub mod Bare
mod Apart
mod Whole
mod Passing
