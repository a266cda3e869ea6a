pub mod Crossing
mod Sentences
pub mod Moments
pub mod Openings
pub mod Steps
pub mod Turns
pub mod Names
