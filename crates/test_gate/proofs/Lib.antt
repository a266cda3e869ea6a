pub mod Lists
pub mod Visiting
