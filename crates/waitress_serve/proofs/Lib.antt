mod Applications
mod Completing
mod Concluded
mod Ends
mod FailedRuns
mod TableFiles
mod TextLemmas
