pub mod Cases
pub mod Classes
pub mod Numbers
pub mod Refusals
