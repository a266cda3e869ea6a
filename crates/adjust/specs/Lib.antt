pub mod Command
pub mod CommandLine
pub mod Lists
pub mod Names
pub mod Options
pub mod Ranges
pub mod Texts
pub mod Values
