pub mod Ends
pub mod Search
pub mod SearchFewest
pub mod Tabulate
pub mod Trial
pub mod Laws
