pub mod Table
pub mod Poll
pub mod Said
pub mod Examples
pub mod EachLines
pub mod Each
