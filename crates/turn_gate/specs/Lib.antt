pub mod Ends
pub mod Gate
pub mod Rule
