pub mod Cuts
mod Digits
pub mod ListEnds
mod Positions
