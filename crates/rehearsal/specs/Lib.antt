pub mod Plans
pub mod Requests
pub mod Summary
pub mod Sums
