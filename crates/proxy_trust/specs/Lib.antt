pub mod Answers
pub mod Endpoints
pub mod Headers
pub mod Kept
pub mod KeptFields
pub mod Lists
pub mod Rules
pub mod Trust
