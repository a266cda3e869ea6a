pub mod Documents
pub mod Lists
pub mod PieceLemmas
pub mod StepLemmas
pub mod TableFaults
