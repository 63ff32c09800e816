pub mod SoFar
pub mod Entries
pub mod Headings
pub mod Sound
pub mod FromFiles
pub mod Values
pub mod Printed
pub mod Tested
